pub mod Text
pub mod Grammar
pub mod Uses
pub mod Unsupported
pub mod FirstFault
pub mod Rows
pub mod Laws
pub mod Inner
