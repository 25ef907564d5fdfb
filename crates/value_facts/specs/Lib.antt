pub mod MayFail
