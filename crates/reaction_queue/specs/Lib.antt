pub mod Reactions
pub mod Queues
pub mod Trimmed
pub mod ElementQueues
pub mod Changes
pub mod Chains
