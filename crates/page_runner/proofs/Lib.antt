pub mod EndLaws
mod RoomLaws
mod MemoryLaws
