-- How a folder of the system gets into a volume.
--     MakesFolder        a folder is made with what the system tells of its own one
--     HasFolder, LacksFolder     a folder is there, or is made; or neither
--     FindsFolder        the one or the other
--     Entered            a folder that is brought in: its number, what the system tells of it, what is set at its end, and the names that wait, the last first
--     entered            the same, as the code keeps it
--     TellsNames         of the names of a folder is told that some are no text, or that not all could be read
--     IsUnread           they could not be read
--     ReadsNames         the one or the other
--     Enters, NotEntered         a folder is begun at a place, or not
--     EntersAt           the one or the other
--     EntersThere        one is begun in a folder that is there; EntersIn: or not
--     SettlesBy, Settles what is set at its end
use Rattle.std.specs.Prelude.{◌≡◌, ◌⊎◌, ℕ, List, map, None, Some, Result, Ok, Err}
use Rattle.std.specs.String.{string_bytes}
use Rattle.host_trees.specs.declared.attributes.Attributes.{Attributes as Told}
use Rattle.tree_lines.specs.Values.{Attributes}
use Rattle.tree_lines.specs.Places.{IsFolder}
use Rattle.tree_lines.specs.Trees.{IsThereIn}
use Rattle.tree_lines.specs.declared.fault.Fault.{Fault as LineFault}
use Rattle.tree_lines.specs.declared.fault.Fault.TheVariants.{NoMemory}
use Rattle.tree_lines.specs.declared.node.Node.{Node}
use Rattle.tree_puts.specs.Actions.{Action, Calls, Nothing}
use Rattle.tree_puts.specs.Actions.Action.{makes_folder}
use Rattle.tree_puts.specs.Arriving.{HasRights, SetsAll, SetsTime}
use Rattle.tree_puts.specs.Lines.{Acts, LineState, Stays, StaysButTold, TellsOnce}
use Rattle.tree_puts.specs.declared.arriving.Goods.{Goods}
use Rattle.tree_puts.specs.declared.tree_in.AtEnd.{AtEnd}
use Rattle.tree_puts.specs.declared.tree_in.AtEnd.TheVariants as ends
use Rattle.tree_puts.specs.declared.tree_in.Frame.{Frame}

-- Where it goes

abbrev pub MakesFolder : {E : Type 0} → Goods → Result ℕ E → List Action → Type 0
MakesFolder goods result actions = (attributes : Attributes) × HasRights attributes goods.attributes.now
    × Calls (makes_folder goods.place.folder goods.place.name.now attributes) result actions

-- at_end: what is set of it once it is full
abbrev pub HasFolder : Goods → ℕ → AtEnd → LineState → LineState → Type 0
HasFolder goods number at_end a b =
    ((node : Node) × IsThereIn a.store a.volume goods.place.folder goods.place.name.now (Some node) × IsFolder node × (number ≡ node.number)
    × (at_end ≡ ends.All) × Stays a b)
    ⊎ (IsThereIn a.store a.volume goods.place.folder goods.place.name.now None × (at_end ≡ ends.Time)
    × Acts (MakesFolder {E = LineFault} goods (Ok number)) a b)

-- what has the name is no folder, or can't be seen; or none could be made
abbrev pub LacksFolder : Goods → LineState → LineState → Type 0
LacksFolder goods a b = Stays a b
    ⊎ (IsThereIn a.store a.volume goods.place.folder goods.place.name.now None
    × ((fault : LineFault) × Acts (MakesFolder goods (Err fault)) a b))

abbrev pub FindsFolder : Goods → Result (ℕ × AtEnd) LineFault → LineState → LineState → Type 0
FindsFolder goods (Ok made) a b = HasFolder goods made.0 made.1 a b
FindsFolder goods (Err fault) a b = LacksFolder goods a b

-- What is kept of it

pub record Entered : Type 0 where
  pub number : ℕ
  pub attributes : Told
  pub at_end : AtEnd
  pub waiting : List (List ℕ)

abbrev pub entered : Frame → Entered
entered frame = record {
  number = frame.number;
  attributes = frame.attributes;
  at_end = frame.at_end;
  waiting = map string_bytes frame.waiting.items;
}

abbrev pub TellsNames : LineState → LineState → Type 0
TellsNames a b = (between : LineState) × TellsOnce a between × TellsOnce between b

-- where there is no memory to tell something it is not known what is told
abbrev pub IsUnread : LineFault → LineState → LineState → Type 0
IsUnread fault a b = Stays a b ⊎ ((fault ≡ NoMemory) × StaysButTold a b)

abbrev pub ReadsNames : {A : Type 0} → Result A LineFault → LineState → LineState → Type 0
ReadsNames (Ok names) a b = TellsNames a b
ReadsNames (Err fault) a b = IsUnread fault a b

-- the names that wait are those that the system told
abbrev pub Enters : Goods → Entered → LineState → LineState → Type 0
Enters goods frame a b = (read : LineState) × TellsNames a read × HasFolder goods frame.number frame.at_end read b
    × (frame.attributes ≡ goods.attributes.now)

-- its names could not be read; or there is no folder for it; or there is no memory to go on with it
abbrev pub NotEntered : Goods → LineFault → LineState → LineState → Type 0
NotEntered goods fault a b = IsUnread fault a b
    ⊎ ((read : LineState) × TellsNames a read × (LacksFolder goods read b
    ⊎ ((fault ≡ NoMemory) × ((number : ℕ) × (at_end : AtEnd) × HasFolder goods number at_end read b))))

abbrev pub EntersAt : Goods → Result Frame LineFault → LineState → LineState → Type 0
EntersAt goods (Ok frame) a b = Enters goods (entered frame) a b
EntersAt goods (Err fault) a b = NotEntered goods fault a b

abbrev pub EntersThere : ℕ → Told → Entered → LineState → LineState → Type 0
EntersThere number told frame a b = TellsNames a b × (frame.number ≡ number) × (frame.attributes ≡ told) × (frame.at_end ≡ ends.Nothing)

abbrev pub EntersIn : ℕ → Told → Result Frame LineFault → LineState → LineState → Type 0
EntersIn number told (Ok frame) a b = EntersThere number told (entered frame) a b
EntersIn number told (Err fault) a b = IsUnread fault a b

-- Its end

abbrev pub SettlesBy : {E : Type 0} → AtEnd → ℕ → Told → Result (Unit {0}) E → List Action → Type 0
SettlesBy ends.Nothing number told result actions = (result ≡ Ok tt) × Nothing actions
SettlesBy ends.Time number told result actions = SetsTime number told.modified result actions
SettlesBy ends.All number told result actions = SetsAll number told result actions

abbrev pub Settles : {E : Type 0} → Entered → Result (Unit {0}) E → LineState → LineState → Type 0
Settles frame result = Acts (SettlesBy frame.at_end frame.number frame.attributes result)
