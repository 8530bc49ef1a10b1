-- What the files say is no want of space.
use Rattle.std.proofs.Common.{◌≡◌, ℕ, ℤ, Bool, true, false, List, Option, None, Some, Result, Ok, Err, refl, subst, if◌then◌else◌}
use Rattle.std.specs.Option.{ok_or}
use Rattle.treefs_format.specs.Names.{is_name}
use Rattle.treefs_model.specs.Changes.{unlinked, without_name}
use Rattle.treefs_model.specs.Files.{Content, Directory, File, Files, Inode, Names, SymbolicLink, and_then, directory_at, found, is_directory, is_orphan}
use Rattle.treefs_model.specs.Files.{linked_names, names_for, names_in, number_in, when}
use Rattle.treefs_model.specs.declared.fault.Fault.{Fault}
use Rattle.treefs_model.specs.declared.fault.Fault.TheVariants.{BadName, IsDir, NoEntry, NotDir}
use Rattle.treefs_session_laws.proofs.Space.{HasSpace}

-- of a result no fault is want of space
abbrev pub Spacious : {A : Type 0} → Result A Fault → Type 0
Spacious {A} r = (f : Fault) → r ≡ Err f → HasSpace f

err_space : {A : Type 0} (f : Fault) → HasSpace f → Spacious {A = A} (Err f)
err_space f has g is = subst HasSpace (cc is) has

ok_space : {A : Type 0} (x : A) → Spacious (Ok x)
ok_space x f is = absurd (cc is)

then_space : {A B : Type 0} (r : Result A Fault) (next : A → Result B Fault) → Spacious r → ((x : A) → Spacious (next x)) → Spacious (and_then r next)
then_space (Ok x) next one other = other x
then_space (Err f) next one other = λ g is. subst HasSpace (cc is) (one f refl)

or_space : {A : Type 0} (o : Option A) (f : Fault) → HasSpace f → Spacious (ok_or o f)
or_space None f has = err_space f has
or_space (Some x) f has = ok_space x

when_space : {A : Type 0} (t : Bool) (x : A) (f : Fault) → HasSpace f → Spacious (when t x f)
when_space true x f has = ok_space x
when_space false x f has = err_space f has

pub found_space : (files : Files) (n : ℕ) → Spacious (found files n)
found_space files n = or_space (files n) NoEntry refl

content_space : (c : Content) → Spacious (names_in c)
content_space (Directory parent names) = ok_space names
content_space (File bytes) = err_space NotDir refl
content_space (SymbolicLink bytes) = err_space NotDir refl

linked_space : (inode : Inode) → Spacious (linked_names inode)
linked_space inode = then_space (names_in inode.content) (λ names. if is_orphan inode then Err NoEntry else Ok names) (content_space inode.content)
    (λ names. by (is_orphan inode) names)
  where
    by : (t : Bool) (names : Names) → Spacious (if t then Err NoEntry else Ok names)
    by true names = err_space NoEntry refl
    by false names = ok_space names

directory_space : (files : Files) (d : ℕ) → Spacious (directory_at files d)
directory_space files d = then_space (found files d) linked_names (found_space files d) linked_space

name_space : (files : Files) (d : ℕ) (name : List ℕ) → Spacious (names_for files d name)
name_space files d name = then_space (directory_at files d) (λ names. when (is_name name) names BadName) (directory_space files d)
    (λ names. when_space (is_name name) names BadName refl)

number_space : (files : Files) (d : ℕ) (name : List ℕ) → Spacious (number_in files d name)
number_space files d name = then_space (names_for files d name) (λ names. ok_or (names name) NoEntry) (name_space files d name)
    (λ names. or_space (names name) NoEntry refl)

pub unlinked_space : (files : Files) (time : ℤ) (d : ℕ) (name : List ℕ) → Spacious (unlinked files time d name)
unlinked_space files time d name = then_space (number_in files d name) _ (number_space files d name)
    (λ n. then_space (found files n) (λ inode. if is_directory inode.content then Err IsDir else Ok (without_name files time d name n)) (found_space files n)
    (λ inode. by (is_directory inode.content) n))
  where
    by : (t : Bool) (n : ℕ) → Spacious (if t then Err IsDir else Ok (without_name files time d name n))
    by true n = err_space IsDir refl
    by false n = ok_space (without_name files time d name n)
