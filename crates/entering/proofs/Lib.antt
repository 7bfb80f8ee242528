pub mod Letter
