pub mod ClassForms
