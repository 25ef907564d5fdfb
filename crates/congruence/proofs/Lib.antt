pub mod SameClass
