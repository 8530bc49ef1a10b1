-- What an inode says once some of its bytes are written.
use Rattle.std.proofs.Common.{◌≡◌, ℕ, zero, suc, ◌+◌, ◌<◌, ◌≤◌, ◌^◌, List, [], ◌∷◌, ◌++◌, length, take, drop, get_or, refl, sym, ◌∙◌, ap, inl, inr, arith, subst, ℤ, length-append, length-drop}
use Rattle.std.specs.Prelude.{All, FitsSigned, pos, negsuc, IsTrue, flat_map, fold, map, ◌==◌}
use Rattle.std.specs.Int.{w64, byte_len, cast_signed, cast_unsigned, from_le_bytes}
use Rattle.std.specs.List.{range_with_len}
use Rattle.std.proofs.lemmas.Bool.{and_parts, eqb-true}
use Rattle.std.proofs.lemmas.Int.{to_z-of_z}
use Rattle.std.proofs.lemmas.List.{drop_more, take_all}
use Rattle.std.proofs.lemmas.List.Elements.{All-head, All-tail}
use Rattle.std.proofs.lemmas.Nat.{from_le_bytes-to_le_bytes_2, from_le_bytes-to_le_bytes_4, from_le_bytes-to_le_bytes_8}
use Rattle.xn_model.specs.Lists.{put}
use Rattle.xn_model.specs.Root.{word_at}
use Rattle.xn_model.proofs.ForCallers.{bytes_apart, length_put}
use Rattle.treefs_format.specs.Fields.{AreInRange, Change, Fields, IsInRange, change_bytes, change_offset, change_width, changed, fields_of, stand_from, time_bytes}
use Rattle.treefs_format.specs.Inodes.{content_of, inode_bytes}
use Rattle.treefs_format.specs.Numbers.{number_at}
use Rattle.treefs_format.specs.declared.fields.Change.TheVariants.{Mode, Links, Uid, Gid, Size, Mtime, Ctime, Parent}
use Rattle.treefs_format.proofs.Puts.{put_none, put_parts}

-- Numbers that are read as they were written

time_below : (time : ℤ) → FitsSigned w64 time → cast_unsigned w64 time < 2 ^ 64
time_below (pos n) fits = omega arith
time_below (negsuc n) fits = omega arith

time_read : (time : ℤ) → FitsSigned w64 time → cast_signed w64 (from_le_bytes w64 (time_bytes time)) ≡ time
time_read time fits = ap (cast_signed w64) (from_le_bytes-to_le_bytes_8 (cast_unsigned w64 time) (time_below time fits)) ∙ to_z-of_z w64 time fits

-- Bytes one by one

abbrev explicit : (ℕ → ℕ) → ℕ → ℕ → List ℕ → List ℕ
explicit g at n rest = map g (range_with_len at n) ++ rest

bytes_explicit : (m : List ℕ) (at n : ℕ) → at + n ≤ length m → drop at m ≡ explicit (λ i. get_or m i 0) at n (drop (at + n) m)
bytes_explicit m at zero h = let z : at + 0 ≡ at = omega arith in ap (λ k. drop k m) (sym z)
bytes_explicit m at (suc n) h =
    let next : at + 1 + n ≡ at + suc n = omega arith in
    drop_more m at 0 (omega arith) ∙ ap (λ l. get_or m at 0 ∷ l) (bytes_explicit m (at + 1) n (omega arith) ∙ ap (λ k. explicit (λ i. get_or m i 0) (at + 1) n (drop k m)) next)

-- A change of an inode whose first 48 bytes are known one by one

change_explicit : (g : ℕ → ℕ) (rest : List ℕ) (c : Change) → IsInRange c → fields_of (put (explicit g 0 48 rest) (change_offset c) (change_bytes c)) ≡ changed (fields_of (explicit g 0 48 rest)) c
unfolding word_at number_at
change_explicit g rest (Mode mode) few = ap (λ v. record (fields_of (explicit g 0 48 rest)) { mode = v }) (from_le_bytes-to_le_bytes_2 mode few)
change_explicit g rest (Links links) few = ap (λ v. record (fields_of (explicit g 0 48 rest)) { links = v }) (from_le_bytes-to_le_bytes_4 links few)
change_explicit g rest (Uid uid) few = ap (λ v. record (fields_of (explicit g 0 48 rest)) { uid = v }) (from_le_bytes-to_le_bytes_4 uid few)
change_explicit g rest (Gid gid) few = ap (λ v. record (fields_of (explicit g 0 48 rest)) { gid = v }) (from_le_bytes-to_le_bytes_4 gid few)
change_explicit g rest (Size size) few = ap (λ v. record (fields_of (explicit g 0 48 rest)) { size = v }) (from_le_bytes-to_le_bytes_8 size few)
change_explicit g rest (Mtime time) few = ap (λ v. record (fields_of (explicit g 0 48 rest)) { mtime = v }) (time_read time few)
change_explicit g rest (Ctime time) few = ap (λ v. record (fields_of (explicit g 0 48 rest)) { ctime = v }) (time_read time few)
change_explicit g rest (Parent parent) few = ap (λ v. record (fields_of (explicit g 0 48 rest)) { parent = v }) (from_le_bytes-to_le_bytes_4 parent few)

change_made : (m : List ℕ) (c : Change) → length m ≡ 512 → IsInRange c → fields_of (put m (change_offset c) (change_bytes c)) ≡ changed (fields_of m) c
change_made m c long few =
    let known = bytes_explicit m 0 48 (omega arith) in
    subst (λ l. fields_of (put l (change_offset c) (change_bytes c)) ≡ changed (fields_of l) c) (sym known) (change_explicit (λ i. get_or m i 0) (drop 48 m) c few)

-- Changes that stand side by side

length-change_bytes : (c : Change) → length (change_bytes c) ≡ byte_len (change_width c)
length-change_bytes (Mode mode) = refl
length-change_bytes (Links links) = refl
length-change_bytes (Uid uid) = refl
length-change_bytes (Gid gid) = refl
length-change_bytes (Size size) = refl
length-change_bytes (Mtime time) = refl
length-change_bytes (Ctime time) = refl
length-change_bytes (Parent parent) = refl

change_within : (c : Change) → change_offset c + byte_len (change_width c) ≤ 48
change_within (Mode mode) = omega arith
change_within (Links links) = omega arith
change_within (Uid uid) = omega arith
change_within (Gid gid) = omega arith
change_within (Size size) = omega arith
change_within (Mtime time) = omega arith
change_within (Ctime time) = omega arith
change_within (Parent parent) = omega arith

pub record Stands (at : ℕ) (c : Change) (cs : List Change) : Type 0 where
  pub here : change_offset c ≡ at
  pub behind : IsTrue (stand_from (at + length (change_bytes c)) cs)

stands : (at : ℕ) (c : Change) (cs : List Change) → IsTrue (stand_from at (c ∷ cs)) → Stands at c cs
stands at c cs h =
    let two = and_parts (change_offset c == at) (stand_from (at + byte_len (change_width c)) cs) h in
    record { here = eqb-true (change_offset c) at two.0; behind = subst (λ n. IsTrue (stand_from (at + n) cs)) (sym (length-change_bytes c)) two.1 }

pub changes_within : (cs : List Change) (at : ℕ) → at ≤ 48 → IsTrue (stand_from at cs) → at + length (flat_map change_bytes cs) ≤ 48
changes_within [] at low h = omega arith
changes_within (c ∷ cs) at low h =
    let s = stands at c cs h in
    let here = s.here in
    let one = change_within c in
    let long = length-change_bytes c in
    let rest = changes_within cs (at + length (change_bytes c)) (omega arith) s.behind in
    let both = length-append (change_bytes c) (flat_map change_bytes cs) in
    omega arith

pub changes_made : (cs : List Change) (m : List ℕ) (at : ℕ) → length m ≡ 512 → IsTrue (stand_from at cs) → All IsInRange cs → fields_of (put m at (flat_map change_bytes cs)) ≡ fold changed (fields_of m) cs
changes_made [] m at long h few = ap fields_of (put_none m at)
changes_made (c ∷ cs) m at long h few =
    let s = stands at c cs h in
    let here = s.here in
    let one = change_within c in
    let size = length-change_bytes c in
    let bs = change_bytes c in
    let within : at + length bs ≤ length m = omega arith in
    let rest = changes_made cs (put m at bs) (at + length bs) (length_put m at bs within ∙ long) s.behind (All-tail IsInRange c cs few) in
    ap fields_of (put_parts m at bs within (flat_map change_bytes cs))
    ∙ (rest ∙ ap (λ f. fold changed f cs) (ap (λ k. fields_of (put m k bs)) (sym here) ∙ change_made m c long (All-head IsInRange c cs few)))

-- Other bytes

-- the first 48 bytes say the fields
fields_explicit : (g : ℕ → ℕ) (rest : List ℕ) → fields_of (explicit g 0 48 rest) ≡ fields_of (take 48 (explicit g 0 48 rest))
unfolding word_at number_at
fields_explicit g rest = refl

fields_first : (m : List ℕ) → length m ≡ 512 → fields_of m ≡ fields_of (take 48 m)
fields_first m long = subst (λ l. fields_of l ≡ fields_of (take 48 l)) (sym (bytes_explicit m 0 48 (omega arith))) (fields_explicit (λ i. get_or m i 0) (drop 48 m))

pub fields_stay : (m : List ℕ) (at : ℕ) (bs : List ℕ) → length m ≡ 512 → 48 ≤ at → at + length bs ≤ 512 → fields_of (put m at bs) ≡ fields_of m
fields_stay m at bs long past fits =
    let within : at + length bs ≤ length m = omega arith in
    fields_first (put m at bs) (length_put m at bs within ∙ long) ∙ (ap fields_of (bytes_apart m at bs within 48 0 (inl past)) ∙ sym (fields_first m long))

pub content_stays : (m : List ℕ) (at : ℕ) (bs : List ℕ) → length m ≡ 512 → at + length bs ≤ 128 → content_of (put m at bs) ≡ content_of m
content_stays m at bs long low =
    let fits : at + length bs ≤ length m = omega arith in
    let new = length-drop 128 (put m at bs) in
    let old = length-drop 128 m in
    let same = length_put m at bs fits in
    sym (take_all 384 (drop 128 (put m at bs)) (omega arith)) ∙ (bytes_apart m at bs fits 384 128 (inr low) ∙ take_all 384 (drop 128 m) (omega arith))

pub change_low : (c : Change) → change_offset c ≤ 48
change_low c = let h = change_within c in omega arith

-- A new inode

pub fields_read : (f : Fields) (head : List ℕ) → AreInRange f → fields_of (inode_bytes f head) ≡ f
unfolding word_at number_at
fields_read f head fits = λ i. record {
  leaf_type = f.leaf_type;
  node_type = f.node_type;
  mode = from_le_bytes-to_le_bytes_2 f.mode fits.mode i;
  links = from_le_bytes-to_le_bytes_4 f.links fits.links i;
  uid = from_le_bytes-to_le_bytes_4 f.uid fits.uid i;
  gid = from_le_bytes-to_le_bytes_4 f.gid fits.gid i;
  size = from_le_bytes-to_le_bytes_8 f.size fits.size i;
  mtime = time_read f.mtime fits.mtime i;
  ctime = time_read f.ctime fits.ctime i;
  parent = from_le_bytes-to_le_bytes_4 f.parent fits.parent i;
  generation = from_le_bytes-to_le_bytes_4 f.generation fits.generation i;
}
