pub mod DrawnLaws
pub mod HeadLaws
pub mod KidLaws
pub mod NumberLaws
