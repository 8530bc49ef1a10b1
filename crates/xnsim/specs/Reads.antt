-- What reading puts behind bytes.
--     Reads before after old new     the known bytes that a reader loses stand behind the old ones
use Rattle.std.specs.Prelude.{◌≡◌, ℕ, List, ◌++◌, Option}
use Rattle.std.specs.Io.KnownBytes.{Consumes}

pub record Reads (before after : Option (List ℕ)) (old new : List ℕ) : Type 0 where
  pub more : List ℕ
  pub behind : new ≡ old ++ more
  pub consumed : Consumes before after more
