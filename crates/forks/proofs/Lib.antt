pub mod ForkLaws
