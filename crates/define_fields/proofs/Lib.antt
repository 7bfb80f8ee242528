pub mod DefineRules
pub mod EntryRules
