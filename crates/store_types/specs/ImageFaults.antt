-- How a fault is printed: its number, its name and its values.
use Rattle.std.specs.Prelude.{ℕ, List, ◌++◌, codes}
use Rattle.std.specs.Fmt.{decimal}
use Rattle.store_types.specs.declared.image_fault.ImageFault.{ImageFault}
use Rattle.store_types.specs.declared.image_fault.ImageFault.TheVariants.{NoMemory, BadLength, BadMark, BadCount, BadTemplate, UnknownType, OutOfRange, TwoOwners}
use Rattle.store_types.specs.declared.image_fault.ImageFault.TheVariants.{SizeWrong, Device}

abbrev pub image_fault_text : ImageFault → List ℕ
image_fault_text NoMemory = codes "1 NoMemory"
image_fault_text BadLength = codes "2 BadLength"
image_fault_text BadMark = codes "3 BadMark"
image_fault_text BadCount = codes "4 BadCount"
image_fault_text (BadTemplate ty) = codes "5 BadTemplate(" ++ decimal ty ++ codes ")"
image_fault_text (UnknownType block ty) = codes "6 UnknownType(" ++ decimal block ++ codes ", " ++ decimal ty ++ codes ")"
image_fault_text (OutOfRange block named) = codes "7 OutOfRange(" ++ decimal block ++ codes ", " ++ decimal named ++ codes ")"
image_fault_text (TwoOwners block) = codes "8 TwoOwners(" ++ decimal block ++ codes ")"
image_fault_text (SizeWrong block) = codes "9 SizeWrong(" ++ decimal block ++ codes ")"
image_fault_text Device = codes "10 Device"
