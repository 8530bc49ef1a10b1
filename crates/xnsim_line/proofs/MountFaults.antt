-- A fault of a run on an image is one that may come of its line.
use Rattle.std.proofs.Common.{ℕ, List, Bor, Option, None}
use Rattle.xnsim_line.specs.declared.fault.Fault.{Fault}
use Rattle.xnsim_line.specs.declared.fault.Fault.TheVariants.{Usage, CannotRead, Unreadable, Image, CannotWrite, NoMemory, Program, Owns, Size, Template, TooManyTemplates, TooManyWords, Stream}
use Rattle.xnsim_line.specs.declared.invocation.Invocation.TheVariants.{Run}
use Rattle.xnsim_line.specs.declared.invocation.Stop.{Stop}
use Rattle.xnsim_line.specs.Done.{IsFaultOf, IsFaultOnImage, IsRunFault}

pub mount_fault : (image script : Bor (List ℕ)) (stop : Option Stop) (bytes : List ℕ) (fault : Fault) → IsFaultOnImage bytes fault → IsFaultOf None (Run image script stop) fault
mount_fault image script stop bytes Usage h = absurd h
mount_fault image script stop bytes (CannotRead name) h = absurd h
mount_fault image script stop bytes (Unreadable line) h = absurd h
mount_fault image script stop bytes (Image fault) h = (bytes, h)
mount_fault image script stop bytes (CannotWrite name) h = absurd h
mount_fault image script stop bytes NoMemory h = tt
mount_fault image script stop bytes (Program found) h = absurd h
mount_fault image script stop bytes (Owns found) h = absurd h
mount_fault image script stop bytes (Size found) h = absurd h
mount_fault image script stop bytes (Template place found) h = absurd h
mount_fault image script stop bytes TooManyTemplates h = absurd h
mount_fault image script stop bytes TooManyWords h = absurd h
mount_fault image script stop bytes Stream h = tt

-- a fault of a run is one that may come of a run on an image
pub run_fault : (bytes : List ℕ) (fault : Fault) → IsRunFault fault → IsFaultOnImage bytes fault
run_fault bytes Usage h = h
run_fault bytes (CannotRead name) h = h
run_fault bytes (Unreadable line) h = h
run_fault bytes (Image fault) h = absurd h
run_fault bytes (CannotWrite name) h = h
run_fault bytes NoMemory h = h
run_fault bytes (Program found) h = h
run_fault bytes (Owns found) h = h
run_fault bytes (Size found) h = h
run_fault bytes (Template place found) h = h
run_fault bytes TooManyTemplates h = h
run_fault bytes TooManyWords h = h
run_fault bytes Stream h = h
