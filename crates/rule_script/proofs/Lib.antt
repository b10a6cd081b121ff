pub mod OperandLaws
pub mod NestingLaws
pub mod SpellLaws
pub mod FaultLaws
pub mod LineLaws
pub mod WriteLaws
