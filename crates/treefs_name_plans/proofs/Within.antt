-- The record of a name that is found begins within its block.
use Rattle.std.proofs.Common.{◌≡◌, ◌==◌, ℕ, ◌+◌, ◌-◌, ◌≤◌, List, [], ◌∷◌, length, drop, Bool, true, false, Option, None, Some, Result, Ok, Err, refl, sym, subst, arith, if◌then◌else◌}
use Rattle.std.specs.Prelude.{option_map}
use Rattle.std.specs.Option.{option_or, ok_or}
use Rattle.std.proofs.lemmas.List.{length-drop}
use Rattle.treefs_format.proofs.Loops.{ends_within}
use Rattle.treefs_format.specs.Buckets.{has_name, live_record}
use Rattle.treefs_format.specs.Candidates.{candidates, name_hash}
use Rattle.treefs_format.specs.Names.{is_name}
use Rattle.treefs_format.specs.Records.{Record, is_live}
use Rattle.treefs_model.specs.declared.fault.Fault.{Fault}
use Rattle.treefs_model.specs.declared.fault.Fault.TheVariants.{BadName, NoEntry}
use Rattle.treefs_model.specs.Files.{and_then}
use Rattle.treefs_model.specs.Reading.{bucket_of, key_in, leaf_block}
use Rattle.treefs_lookup.specs.Buckets.{bucket_block, bucket_start}
use Rattle.treefs_lookup.specs.Inodes.{directory_found}
use Rattle.treefs_lookup.specs.Names.{entry_found, first_some, named_in, slot_in, slot_named, slot_of}
use Rattle.treefs_lookup.specs.declared.names.Slot.{Slot}
use Rattle.treefs_lookup.proofs.FoundRecords.{found_within}
use Rattle.treefs_name_plans.specs.Ends.{IsWithin}
use Rattle.std.specs.Prelude.{◌&&◌}

-- steps that may fail
pub record Follows {A B : Type 0} (r : Result A Fault) (f : A → Result B Fault) (y : B) : Type 0 where
  pub value : A
  pub first : r ≡ Ok value
  pub second : f value ≡ Ok y

pub then_ok : {A B : Type 0} (r : Result A Fault) (f : A → Result B Fault) (y : B) → and_then r f ≡ Ok y → Follows r f y
then_ok {A} {B} (Ok x) f y e = record { value = x; first = refl; second = e }
then_ok {A} {B} (Err fault) f y e = absurd (cc e)

-- a record of a bucket
pub fits : (content : ℕ → List ℕ) (x y : ℕ) (a b : Bool) →
    (if a then 128 else 0) + length (if a then drop 128 (content x) else (if b then [] else content y)) ≤ 128 + length (content (if a then x else y))
fits content x y true b = let e = length-drop 128 (content x) in omega (arith, e)
fits content x y false true = omega arith
fits content x y false false = omega arith

record_within : (content : ℕ → List ℕ) (name bytes : List ℕ) (block start : ℕ) (s : Slot) → start + length bytes ≤ 128 + length (content block) →
    (o : Option Record) → live_record bytes name ≡ o → option_map (slot_of block start) o ≡ Some s → IsWithin content s
record_within content name bytes block start s room None e is = absurd (cc is)
record_within content name bytes block start s room (Some r) e is =
    let le : r.offset ≤ length bytes = found_within (λ r. is_live r.entry && has_name name r) bytes r (ends_within bytes) (sym e) in
    let same : slot_of block start r ≡ s = cc in
    subst (IsWithin content) same (omega (arith, le, room))

slot_within : (content : ℕ → List ℕ) (inode : ℕ) (name : List ℕ) (n : ℕ) (s : Slot) → slot_in content inode name n ≡ Some s → IsWithin content s
slot_within content inode name n s is =
    let leaf = leaf_block content inode (n - 1) in
    record_within content name (bucket_of content inode n) (bucket_block content inode n) (bucket_start n) s (fits content inode leaf (n == 0) (leaf == 0))
    (live_record (bucket_of content inode n) name) refl is

first_within : (content : ℕ → List ℕ) (inode : ℕ) (name : List ℕ) (ns : List ℕ) (s : Slot) → first_some (slot_in content inode name) ns ≡ Some s → IsWithin content s
first_within content inode name [] s is = absurd (cc is)
first_within content inode name (n ∷ ns) s is = by (slot_in content inode name n) refl is (first_within content inode name ns s)
  where
    by : (o : Option Slot) → slot_in content inode name n ≡ o → option_or o (first_some (slot_in content inode name) ns) ≡ Some s →
        (first_some (slot_in content inode name) ns ≡ Some s → IsWithin content s) → IsWithin content s
    by None e h rest = rest h
    by (Some x) e h rest = let same : x ≡ s = cc in subst (IsWithin content) same (slot_within content inode name n x e)

named_within : (content : ℕ → List ℕ) (key : List ℕ) (inode : ℕ) (name : List ℕ) (s : Slot) → slot_named content key inode name ≡ Some s → IsWithin content s
unfolding slot_named
named_within content key inode name s is = first_within content inode name (candidates (name_hash key name)) s is

some_named : (t : Bool) (o : Option Slot) (s : Slot) → (if t then ok_or o NoEntry else Err BadName) ≡ Ok s → o ≡ Some s
some_named true None s e = absurd (cc e)
some_named true (Some x) s e = cc
some_named false o s e = absurd (cc e)

pub entry_within : (content : ℕ → List ℕ) (top d : ℕ) (name : List ℕ) (s : Slot) → entry_found content top d name ≡ Ok s → IsWithin content s
entry_within content top d name s is =
    let found = then_ok (directory_found content top d) (λ directory. named_in content (key_in content top) name directory.block) s is in
    let key = key_in content top in
    named_within content key found.value.block name s (some_named (is_name name) (slot_named content key found.value.block name) s found.second)
