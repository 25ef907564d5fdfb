pub mod RegionLaws
pub mod FrameLaws
pub mod LayoutRow
pub mod RangeRow
pub mod PairLaws
