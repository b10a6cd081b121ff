pub mod VariableLaws
pub mod PlaceLaws
pub mod FlushLaws
pub mod QueueLaws
pub mod PartLaws
pub mod DropsLaws
pub mod SubmissionLaws
pub use Rattle.page_calls.proofs.GivenLaws
