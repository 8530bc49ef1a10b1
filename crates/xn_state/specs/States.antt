-- The types of a state, and what is true of every one.
--     own_types state                 those of the catalogue in block 0's newest state
--     IsStateOf table sets state      its rules, with what is kept beside the lives
--     Continues old new               a later state keeps the rules, and its types are the same
use Rattle.std.specs.Prelude.{◌≡◌, List, Option}
use Rattle.xn_model.specs.Types.{Types}
use Rattle.xn_model.specs.Lives.{StoreState}
use Rattle.xn_model.specs.Calls.{types_of}
use Rattle.xn_model.specs.Rules.{IsConsistent}
use Rattle.udf_run.specs.declared.reads.ReadSet.{ReadSet}
use Rattle.templates.specs.Language.{language}
use Rattle.templates.specs.Tables as tables
use Rattle.claims.specs.Decided.{AreDecided}

abbrev pub own_types : StoreState → Types
own_types state = types_of language state.lives

pub record IsStateOf (table : tables.TableValue) (sets : List (Option ReadSet)) (state : StoreState) : Type 0 where
  pub rules : IsConsistent (own_types state) state
  -- the chunks that are kept of a block decide what it owns
  pub decided : AreDecided (own_types state) sets state.lives
  -- the table is that of the catalogue
  pub own : tables.table_types table ≡ own_types state

pub record Continues (old new : StoreState) : Type 0 where
  pub rules : IsConsistent (own_types old) new
  pub types : own_types new ≡ own_types old
