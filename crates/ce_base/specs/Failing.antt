-- A source and a sink in memory that fail at listed calls.
use Rattle.std.specs.Prelude.{ℕ, List}
use Rattle.ce_base.specs.Sure.{Supply}

-- what a source gives where it doesn't fail, at which calls it fails, how many calls there were, and how many failed
pub record FailingSupply : Type 0 where
  pub supply : Supply
  pub fails : List ℕ
  pub calls : ℕ
  pub failures : ℕ

-- the bytes that a sink holds, at which calls it fails, how many calls there were, and how many failed
pub record FailingStore : Type 0 where
  pub held : List ℕ
  pub fails : List ℕ
  pub calls : ℕ
  pub failures : ℕ

-- what a sink holds that takes at most so many bytes a call
pub record ShortStore : Type 0 where
  pub store : FailingStore
  pub cut : ℕ
