-- What a line that brings files in has come to, and what is done with that.
--     LineState        the store and the volume, the folder that is held, what is to be told, and what is kept of files with several names
--     line_of          the same, of these
--     HoldsSame, KeepsSame     the types of the store and the folder that is held stay; what is kept does
--     StaysButTold     nothing but what is to be told was changed
--     Stays            nothing was changed
--     RunsBy           actions were run by a plan, and nothing else of the volume or of what is to be told was changed
--     Acts             the same, and what is kept stays
--     ForgetsOver      what is kept of the number that has a name is forgotten
--     ActsOver         actions were run by a plan, and that is forgotten
--     ForgetsName      that is forgotten, and nothing else was changed
--     TellsOnce        a fault is told, or none, and nothing else was changed
use Rattle.std.specs.Prelude.{◌≡◌, ◌⊎◌, ℕ, List}
use Rattle.std.specs.BTreeMap.{BTreeMap}
use Rattle.xn_model.specs.Lives.{StoreState}
use Rattle.xn_model.specs.Types.{Types}
use Rattle.tree_lines.specs.Values.{Volume}
use Rattle.tree_lines.specs.Telling.{Tells}
use Rattle.tree_lines.specs.declared.fault.Fault.{Fault as LineFault}
use Rattle.tree_lines.specs.declared.told.Told.{Told as Faults}
use Rattle.tree_puts.specs.Actions.{Action, Performs}
use Rattle.tree_puts.specs.Linked.{Forgets}

-- linked, sources: the numbers of files of the system with several names, by device and inode, and these by the number
pub record LineState : Type 0 where
  pub types : Types
  pub store : StoreState
  pub folder : ℕ
  pub volume : Volume
  pub told : Faults
  pub linked : BTreeMap (ℕ × ℕ) ℕ
  pub sources : BTreeMap ℕ (ℕ × ℕ)

abbrev pub line_of : Types → StoreState → ℕ → Volume → Faults → BTreeMap (ℕ × ℕ) ℕ → BTreeMap ℕ (ℕ × ℕ) → LineState
line_of types store folder volume told linked sources = record {
  types = types;
  store = store;
  folder = folder;
  volume = volume;
  told = told;
  linked = linked;
  sources = sources;
}

abbrev pub HoldsSame : LineState → LineState → Type 0
HoldsSame a b = (b.types ≡ a.types) × (b.folder ≡ a.folder)

abbrev pub KeepsSame : LineState → LineState → Type 0
KeepsSame a b = (b.linked ≡ a.linked) × (b.sources ≡ a.sources)

abbrev pub StaysButTold : LineState → LineState → Type 0
StaysButTold a b = HoldsSame a b × (b.store ≡ a.store) × (b.volume ≡ a.volume) × KeepsSame a b

abbrev pub Stays : LineState → LineState → Type 0
Stays a b = StaysButTold a b × (b.told ≡ a.told)

abbrev pub RunsBy : (List Action → Type 0) → LineState → LineState → Type 0
RunsBy Plan a b = HoldsSame a b × Performs a.types a.folder Plan a.store b.store a.volume b.volume × (b.told ≡ a.told)

abbrev pub Acts : (List Action → Type 0) → LineState → LineState → Type 0
Acts Plan a b = RunsBy Plan a b × KeepsSame a b

abbrev pub ForgetsOver : ℕ → List ℕ → LineState → LineState → Type 0
ForgetsOver directory name a b = Forgets a.store a.volume directory name a.linked b.linked a.sources b.sources

abbrev pub ActsOver : ℕ → List ℕ → (List Action → Type 0) → LineState → LineState → Type 0
ActsOver directory name Plan a b = RunsBy Plan a b × ForgetsOver directory name a b

abbrev pub ForgetsName : ℕ → List ℕ → LineState → LineState → Type 0
ForgetsName directory name a b =
    HoldsSame a b × (b.store ≡ a.store) × (b.volume ≡ a.volume) × (b.told ≡ a.told) × ForgetsOver directory name a b

abbrev pub TellsOnce : LineState → LineState → Type 0
TellsOnce a b = StaysButTold a b × ((b.told ≡ a.told) ⊎ ((fault : LineFault) × Tells a.told b.told fault))
