-- Where a path leads, from a directory on.
--     name_end         where the first name of a path ends
--     number_named     the inode to which a name leads, `.` and `..` too
--     Way              how far a path is gone
--     followed         it goes on with the target of a symbolic link
--     met              it has come to the inode of a number
--     stepped          it goes one slash or one name further
--     Leads            where it leads
--     Answers          what was found is answered, or there is no memory
use Rattle.std.specs.Prelude.{◌≡◌, ◌⊎◌, ℕ, ◌+◌, ◌-◌, ◌==◌, ◌<◌, nat_lt, Bool, false, not, ◌||◌, List, [], ◌∷◌, ◌++◌, bytes_eq, drop, length, take}
use Rattle.std.specs.Prelude.{Result, Ok, Err, if◌then◌else◌}
use Rattle.store_types.specs.declared.refusal.Refusal.TheVariants.{NoMemory}
use Rattle.treefs_format.specs.declared.kind.Kind.{Kind}
use Rattle.treefs_format.specs.declared.kind.Kind.TheVariants as kind
use Rattle.treefs_model.specs.Files.{and_then}
use Rattle.treefs_model.specs.declared.fault.Fault.{Fault}
use Rattle.treefs_model.specs.declared.fault.Fault.TheVariants.{Cycle, TooLarge, Kernel}
use Rattle.treefs_lookup.specs.Bytes.{bytes_from}
use Rattle.treefs_lookup.specs.Inodes.{directory_found, inode_found}
use Rattle.treefs_lookup.specs.Names.{entry_found}
use Rattle.treefs_lookup.specs.declared.inodes.Found.{Found}

-- Names

abbrev pub begins_with_slash : List ℕ → Bool
begins_with_slash [] = false
begins_with_slash (byte ∷ path) = byte == 47

-- inode 1, where the path begins with a slash
abbrev pub start_of : ℕ → List ℕ → ℕ
start_of d path = if begins_with_slash path then 1 else d

-- before its first slash
abbrev pub name_end : List ℕ → ℕ
name_end [] = 0
name_end (byte ∷ path) = if byte == 47 then 0 else 1 + name_end path

abbrev pub number_named : (ℕ → List ℕ) → ℕ → ℕ → List ℕ → Result ℕ Fault
number_named content top d name =
    if bytes_eq name (46 ∷ []) then and_then (directory_found content top d) (λ found. Ok d)
    else if bytes_eq name (46 ∷ 46 ∷ []) then and_then (directory_found content top d) (λ found. Ok found.fields.parent)
    else and_then (entry_found content top d name) (λ slot. Ok slot.number)

-- Steps

pub record Way : Type 0 where
  -- the inode to which it led so far
  pub number : ℕ
  -- what is left of it
  pub rest : List ℕ
  -- how many more symbolic links it may go through
  pub links : ℕ

-- the target, and what stands behind the link
abbrev pub target_of : (ℕ → List ℕ) → Found → List ℕ → List ℕ
target_of content link rest = bytes_from content link.block 0 link.fields.size ++ rest

abbrev pub with_target : Way → List ℕ → Way
with_target way path = record { number = start_of way.number path; rest = path; links = way.links - 1 }

abbrev pub followed : (ℕ → List ℕ) → Way → Found → List ℕ → Result Way Fault
followed content way link rest =
    if way.links == 0 then Err Cycle
    else if nat_lt 4096 link.fields.size then Err TooLarge else Ok (with_target way (target_of content link rest))

-- last: whether a symbolic link at the end is followed
abbrev pub met_as : (ℕ → List ℕ) → Bool → Way → ℕ → List ℕ → Found → Kind → Result Way Fault
met_as content last way n rest found kind.SymbolicLink =
    if last || not (length rest == 0) then followed content way found rest else Ok (record { number = n; rest = rest; links = way.links })
met_as content last way n rest found kind.Directory = Ok (record { number = n; rest = rest; links = way.links })
met_as content last way n rest found kind.File = Ok (record { number = n; rest = rest; links = way.links })

abbrev pub met : (ℕ → List ℕ) → ℕ → Bool → Way → ℕ → List ℕ → Result Way Fault
met content top last way n rest = and_then (inode_found content top n) (λ found. met_as content last way n rest found found.kind)

abbrev pub stepped : (ℕ → List ℕ) → ℕ → Bool → Way → Result Way Fault
stepped content top last way =
    if begins_with_slash way.rest
    then and_then (directory_found content top way.number) (λ found. Ok (record { number = way.number; rest = drop 1 way.rest; links = way.links }))
    else and_then (number_named content top way.number (take (name_end way.rest) way.rest))
    (λ n. met content top last way n (drop (name_end way.rest) way.rest))

-- what is left grows through a symbolic link alone
abbrev pub IsFurther : Way → List ℕ → Way → Type 0
IsFurther way rest next = (next.links < way.links) ⊎ ((next.links ≡ way.links) × (next.rest ≡ rest))

abbrev pub IsShorter : Way → Way → Type 0
IsShorter way next = (next.links < way.links) ⊎ ((next.links ≡ way.links) × (length next.rest < length way.rest))

-- The whole

pub data Leads (content : ℕ → List ℕ) (top : ℕ) (last : Bool) : Way → Result ℕ Fault → Type 0 where
  arrives : {way : Way} → length way.rest ≡ 0 → Leads content top last way (Ok way.number)
  stops : {way : Way} {fault : Fault} → 0 < length way.rest → stepped content top last way ≡ Err fault → Leads content top last way (Err fault)
  goes : {way : Way} {result : Result ℕ Fault} (next : Way) → 0 < length way.rest → stepped content top last way ≡ Ok next →
      Leads content top last next result → Leads content top last way result

-- through 40 symbolic links at most
abbrev pub first_way : ℕ → List ℕ → Way
first_way d path = record { number = start_of d path; rest = path; links = 40 }

abbrev pub Answers : Result Way Fault → Result Way Fault → Type 0
Answers found result = (result ≡ Err (Kernel NoMemory)) ⊎ (result ≡ found)
