pub mod Canonical
pub mod FirstWrong
pub mod Grammar
pub mod Machine
pub mod Numbers
