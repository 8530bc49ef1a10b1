-- What a line of the program prints, and the faults that may come of it.
use Rattle.std.specs.Prelude.{◌≡◌, ◌≢◌, ◌≤◌, ◌⊎◌, ⊤, ℕ, List, [], length, map, Option, IfSome, codes, string_bytes, Contains}
use Rattle.templates.specs.Templates.{TemplateValue}
use Rattle.xn_state.specs.declared.event.Event.{Event}
use Rattle.xnsim_line.specs.declared.invocation.Invocation.{Invocation}
use Rattle.xnsim_line.specs.declared.invocation.Stop.{Stop}
use Rattle.xnsim_line.specs.declared.invocation.Invocation.TheVariants.{Bare, Format, Run, Check, Asm, Verify}
use Rattle.xnsim_line.specs.declared.fault.Fault.{Fault}
use Rattle.xnsim_line.specs.declared.fault.Fault.TheVariants.{Usage, CannotRead, Unreadable, Image, CannotWrite, NoMemory, Program, Owns, Size, Template}
use Rattle.xnsim_line.specs.declared.fault.Fault.TheVariants.{TooManyTemplates, TooManyWords, Stream}
use Rattle.world.specs.Opened.{IsHeldWhole, IsOpenFault}
use Rattle.xnsim_line.specs.Assembling.{IsTemplateFault, PrintsTemplate}
use Rattle.udf_verify.specs.declared.fault.Role.{Role}
use Rattle.xnsim_line.specs.Files.{Held, IsHeld, with_file}
use Rattle.xnsim_line.specs.Formatting.{IsSomeFault, IsTooMany, PrintsMade}
use Rattle.xnsim_line.specs.Checking.{IsVerdict, PrintsChecked}
use Rattle.xnsim_line.specs.Lines.{IsLine, IsNoLine}
use Rattle.xnsim_line.specs.Programs.{IsProgramFault, PrintsAccepted}
use Rattle.xnsim_line.specs.Runs.{fresh_world, IsPrintedRun}
use Rattle.xnsim_line.specs.Stops.{IsAskedRun}
use Rattle.script.specs.Scripts.{IsFirstUnreadable, IsScript}

-- a script was run on a fresh disk of so many blocks with these templates, and its replies printed; where it is known which
-- bytes were to be read, they are the script's text
pub record PrintsReplies (known : Option (List ℕ)) (blocks : ℕ) (templates : List TemplateValue) (old new : Option (List ℕ)) : Type 0 where
  pub text : List ℕ
  pub events : List Event
  pub image : List ℕ
  pub read : IfSome known (λ bytes. text ≡ bytes)
  pub short : length text ≤ 67108864
  pub script : IsScript text events
  pub run : IsPrintedRun (fresh_world blocks templates) events old new image

-- the script of a file was run on the disk of a file's image, which is sound and no larger than a world, to its end or to a stop, its replies printed, and
-- what is then on the disk written back
pub record PrintsMounted (held held_after : Held) (image_name script_name : List ℕ) (stop : Option Stop) (old new : Option (List ℕ)) : Type 0 where
  pub image : List ℕ
  pub text : List ℕ
  pub events : List Event
  pub after : List ℕ
  pub image_held : IsHeld held image_name image
  pub held_whole : IsHeldWhole image
  pub script_held : IsHeld held script_name text
  pub script_short : length text ≤ 67108864
  pub script : IsScript text events
  pub run : IsAskedRun stop image events old new after
  pub written : held_after ≡ with_file held image_name after

-- the template of the texts of two files was made, its block written to another file, and its line printed
pub record PrintsAssembled (held held_after : Held) (owns_name size_name block_name : List ℕ) (old new : Option (List ℕ)) : Type 0 where
  pub owns_text : List ℕ
  pub size_text : List ℕ
  pub owns_held : IsHeld held owns_name owns_text
  pub size_held : IsHeld held size_name size_text
  pub owns_short : length owns_text ≤ 1048576
  pub size_short : length size_text ≤ 1048576
  pub not_owns : owns_name ≢ block_name
  pub not_size : size_name ≢ block_name
  pub template : PrintsTemplate held held_after block_name owns_text size_text old new

-- the program of a file's text was accepted, and its line printed
pub record PrintsVerified (held held_after : Held) (name : List ℕ) (role : Role) (old new : Option (List ℕ)) : Type 0 where
  pub text : List ℕ
  pub text_held : IsHeld held name text
  pub text_short : length text ≤ 1048576
  pub accepted : PrintsAccepted text role old new
  pub kept : held_after ≡ held

-- what is done where all that is asked for was: what is printed and written, by what is known of standard input and of the files
abbrev pub IsDone : Option (List ℕ) → Held → Held → Invocation → Option (List ℕ) → Option (List ℕ) → Type 0
IsDone input held held_after Bare old new = PrintsReplies input 32 [] old new × (held_after ≡ held)
IsDone input held held_after (Format image blocks file_system templates) old new =
    PrintsMade held held_after image.now blocks file_system (map string_bytes templates.now) old new
IsDone input held held_after (Run image script stop) old new = PrintsMounted held held_after image.now script.now stop old new
IsDone input held held_after (Check image) old new = PrintsChecked held held_after image.now old new
IsDone input held held_after (Asm owns size block) old new = PrintsAssembled held held_after owns.now size.now block.now old new
IsDone input held held_after (Verify name role) old new = PrintsVerified held held_after name.now role old new

-- these words are a line, and all that it asks for was done
abbrev pub IsLineDone : Option (List ℕ) → Held → Held → List (List ℕ) → Option (List ℕ) → Option (List ℕ) → Type 0
IsLineDone input held held_after words old new = (asked : Invocation) × IsLine words asked × IsDone input held held_after asked old new

-- a fault that may come of a run on a fresh disk
abbrev pub IsRunFault : Fault → Type 0
IsRunFault NoMemory = ⊤
IsRunFault Stream = ⊤
IsRunFault fault = ⊥

-- why standard input is not read
abbrev pub IsInputFault : Fault → Type 0
IsInputFault NoMemory = ⊤
IsInputFault (CannotRead name) = name.now ≡ codes "-"
IsInputFault fault = ⊥

-- a fault that may come of a run on the disk of an image
abbrev pub IsFaultOnImage : List ℕ → Fault → Type 0
IsFaultOnImage image (Image fault) = IsOpenFault image fault
IsFaultOnImage image fault = IsRunFault fault

-- a fault that may come of what is asked for
abbrev pub IsFaultOf : Option (List ℕ) → Invocation → Fault → Type 0
IsFaultOf input (Format image blocks file_system templates) (CannotRead name) = Contains (map string_bytes templates.now) name.now
IsFaultOf input (Format image blocks file_system templates) (Template place found) = IsSomeFault (length templates.now) place found
IsFaultOf input (Format image blocks file_system templates) TooManyTemplates = IsTooMany file_system (length templates.now)
IsFaultOf input (Format image blocks file_system templates) (CannotWrite name) = name ≡ image
IsFaultOf input (Run image script stop) (CannotRead name) = (name ≡ image) ⊎ (name ≡ script)
IsFaultOf input (Run image script stop) (Unreadable line) = (text : List ℕ) × IsFirstUnreadable text line
IsFaultOf input (Run image script stop) (Image fault) = (bytes : List ℕ) × IsOpenFault bytes fault
IsFaultOf input (Run image script stop) (CannotWrite name) = name ≡ image
IsFaultOf input (Check image) (CannotRead name) = name ≡ image
IsFaultOf input (Check image) (Image fault) = (bytes : List ℕ) × IsVerdict bytes fault
IsFaultOf input (Asm owns size block) NoMemory = ⊥
IsFaultOf input (Asm owns size block) (CannotRead name) = (name ≡ owns) ⊎ (name ≡ size)
IsFaultOf input (Asm owns size block) (Owns found) = (owns_text size_text : List ℕ) × IsTemplateFault owns_text size_text (Owns found)
IsFaultOf input (Asm owns size block) (Size found) = (owns_text size_text : List ℕ) × IsTemplateFault owns_text size_text (Size found)
IsFaultOf input (Asm owns size block) TooManyWords = (owns_text size_text : List ℕ) × IsTemplateFault owns_text size_text TooManyWords
IsFaultOf input (Asm owns size block) (CannotWrite name) = name ≡ block
IsFaultOf input (Verify text role) NoMemory = ⊥
IsFaultOf input (Verify text role) (CannotRead name) = name ≡ text
IsFaultOf input (Verify text role) (Program found) = (bytes : List ℕ) × IsProgramFault bytes role found
IsFaultOf input Bare (CannotRead name) = name.now ≡ codes "-"
IsFaultOf input Bare (Unreadable line) = (text : List ℕ) × IfSome input (λ bytes. text ≡ bytes) × IsFirstUnreadable text line
IsFaultOf input asked fault = IsRunFault fault

-- a fault that may come of a line
abbrev pub IsLineFault : Option (List ℕ) → List (List ℕ) → Fault → Type 0
IsLineFault input words Usage = IsNoLine words
IsLineFault input words NoMemory = ⊤
IsLineFault input words fault = (asked : Invocation) × IsLine words asked × IsFaultOf input asked fault
