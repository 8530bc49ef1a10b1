-- How a refusal is printed: its number and its name.
use Rattle.std.specs.Prelude.{ℕ, List, codes}
use Rattle.store_types.specs.declared.refusal.Refusal.{Refusal}
use Rattle.store_types.specs.declared.refusal.Refusal.TheVariants.{NoMemory, NoSuchBlock, NotInUse, NotYours, BadPatch, BadAfter, NotFresh, NotOwned, NotEmpty}
use Rattle.store_types.specs.declared.refusal.Refusal.TheVariants.{ClaimWrong, SizeWrong, TooManyPending, NoSpace, BadType, InFlight, NotMine, Device, RootTaken}
use Rattle.store_types.specs.declared.refusal.Refusal.TheVariants.{NothingSafe, Exhausted, Cycle, NotSynced, NoSlot, BadTemplate}

abbrev pub refusal_text : Refusal → List ℕ
refusal_text NoMemory = codes "1 NoMemory"
refusal_text NoSuchBlock = codes "2 NoSuchBlock"
refusal_text NotInUse = codes "3 NotInUse"
refusal_text NotYours = codes "4 NotYours"
refusal_text BadPatch = codes "5 BadPatch"
refusal_text BadAfter = codes "6 BadAfter"
refusal_text NotFresh = codes "7 NotFresh"
refusal_text NotOwned = codes "8 NotOwned"
refusal_text NotEmpty = codes "9 NotEmpty"
refusal_text ClaimWrong = codes "10 ClaimWrong"
refusal_text SizeWrong = codes "11 SizeWrong"
refusal_text TooManyPending = codes "13 TooManyPending"
refusal_text NoSpace = codes "14 NoSpace"
refusal_text BadType = codes "15 BadType"
refusal_text InFlight = codes "16 InFlight"
refusal_text NotMine = codes "17 NotMine"
refusal_text Device = codes "18 Device"
refusal_text RootTaken = codes "19 RootTaken"
refusal_text NothingSafe = codes "20 NothingSafe"
refusal_text Exhausted = codes "21 Exhausted"
refusal_text Cycle = codes "22 Cycle"
refusal_text NotSynced = codes "23 NotSynced"
refusal_text NoSlot = codes "24 NoSlot"
refusal_text BadTemplate = codes "25 BadTemplate"
