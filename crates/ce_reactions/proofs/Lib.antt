pub mod SessionLaws
pub mod ConstructLaws
pub mod SettleLaws
pub mod UpgradeLaws
pub mod CreateLaws
pub mod CallLaws
