-- What the two calls promise: that of crates/calls, specs/Calls, named here for who calls them.
pub use Rattle.calls.specs.Calls.{Before, After, Allowance, New, TakenUp, Stands, Made}
unfoldable pub use Rattle.calls.specs.Calls.{taken_up, Calls}
