pub mod ClassesLaws
