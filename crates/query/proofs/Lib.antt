pub mod Order
pub mod Going
