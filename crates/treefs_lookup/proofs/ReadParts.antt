-- Bytes that a read copies, part after part.
use Rattle.std.proofs.Common.{◌≡◌, ℕ, zero, suc, ◌+◌, ◌-◌, ◌/◌, ◌%◌, ◌<◌, ◌≤◌, Bool, List, [], ◌∷◌, ◌++◌, map, length, take, drop, get_or, refl, sym, ◌∙◌, ap, arith, length-take, length-drop, get_or-take, get_or-drop, eq-eqb, length-append, drop-drop, take-append-drop, if◌then◌else◌}
use Rattle.std.specs.Prelude.{slice_index}
use Rattle.std.specs.List.{range_with_len}
use Rattle.std.proofs.Math.Seq.{drop-append-add, take-append_seam}
use Rattle.std.proofs.lemmas.Bool.{le-ltb, lt-ltb}
use Rattle.std.proofs.lemmas.List.FromFn.{length-map-range_with_len}
use Rattle.std.proofs.lemmas.Slice.{drop-put_mid, take-put_mid}
use borrow.Rule.Slice.PartMut.{put_mid}
use Rattle.treefs_model.specs.Reading.{byte_of, leaf_block, leaf_byte}
use Rattle.treefs_lookup.specs.Bytes.{bytes_from, part_left}

-- a list by its elements
from_each : (f : ℕ → ℕ) (xs : List ℕ) (a : ℕ) → ((k : ℕ) → k < length xs → get_or xs k 0 ≡ f (a + k)) → xs ≡ map f (range_with_len a (length xs))
from_each f [] a h = refl
from_each f (x ∷ xs) a h =
    let first : x ≡ f (a + 0) = h 0 (omega arith) in
    let e : a + 0 ≡ a = omega arith in
    let rest = from_each f xs (a + 1) (λ k low. let s : a + suc k ≡ a + 1 + k = omega arith in h (suc k) (omega arith) ∙ ap f s) in
    ap (λ y. y ∷ xs) (first ∙ ap f e) ∙ ap (λ ys. f a ∷ ys) rest

maps_same : (f h : ℕ → ℕ) (a b n : ℕ) → ((k : ℕ) → k < n → f (a + k) ≡ h (b + k)) → map f (range_with_len a n) ≡ map h (range_with_len b n)
maps_same f h a b zero same = refl
maps_same f h a b (suc n) same =
    let x : a + 0 ≡ a = omega arith in
    let y : b + 0 ≡ b = omega arith in
    let first : f a ≡ h b = ap f (sym x) ∙ (same 0 (omega arith) ∙ ap h y) in
    let rest = maps_same f h (a + 1) (b + 1) n (λ k low.
    let s : a + 1 + k ≡ a + suc k = omega arith in
    let t : b + suc k ≡ b + 1 + k = omega arith in
    ap f s ∙ (same (suc k) (omega arith) ∙ ap h t)) in
    ap (λ z. z ∷ map f (range_with_len (a + 1) n)) first ∙ ap (λ zs. h b ∷ zs) rest

maps_append : (f : ℕ → ℕ) (a n m : ℕ) → map f (range_with_len a (n + m)) ≡ map f (range_with_len a n) ++ map f (range_with_len (a + n) m)
maps_append f a zero m =
    let x : 0 + m ≡ m = omega arith in
    let y : a ≡ a + 0 = omega arith in
    ap (λ k. map f (range_with_len a k)) x ∙ ap (λ b. map f (range_with_len b m)) y
maps_append f a (suc n) m =
    let x : suc n + m ≡ suc (n + m) = omega arith in
    let y : a + 1 + n ≡ a + suc n = omega arith in
    ap (λ k. map f (range_with_len a k)) x ∙ ap (λ ys. f a ∷ ys) (maps_append f (a + 1) n m ∙ ap (λ b. map f (range_with_len (a + 1) n) ++ map f (range_with_len b m)) y)

-- bytes of a block; zeros, where each byte is one
pub part_of : (m : List ℕ) (at n : ℕ) → at + n ≤ length m → take n (drop at m) ≡ map (slice_index m) (range_with_len at n)
part_of m at n within =
    let long : length (take n (drop at m)) ≡ n = simp (length-take, length-drop) (omega arith) in
    from_each (slice_index m) (take n (drop at m)) at (λ k low. let less : k < n = omega arith in get_or-take n (drop at m) k 0 less ∙ get_or-drop at m k 0)
    ∙ ap (λ x. map (slice_index m) (range_with_len at x)) long

pub zero_part : (f : ℕ → ℕ) (xs : List ℕ) (at : ℕ) → ((k : ℕ) → f k ≡ 0) → ((k : ℕ) → k < length xs → get_or xs k 0 ≡ 0) → xs ≡ map f (range_with_len at (length xs))
zero_part f xs at none each = from_each f xs at (λ k low. each k low ∙ sym (none (at + k)))

pub none_at : (m : List ℕ) → m ≡ [] → (k : ℕ) → slice_index m k ≡ 0
none_at m e k = ap (λ l. slice_index l k) e

pub no_leaf : (content : ℕ → List ℕ) (block : ℕ) → block ≡ 0 → (k : ℕ) → leaf_byte content block k ≡ 0
no_leaf content block none k = ap (λ (t : Bool). if t then 0 else slice_index (content block) k) (eq-eqb block 0 none)

-- bytes of a content that stand together
pub left_low : (at : ℕ) → at < 384 → part_left at ≡ 384 - at
left_low at lt = ap (λ (t : Bool). if t then 384 - at else 512 - at % 512) (lt-ltb at 384 lt)

pub left_high : (at : ℕ) → 384 ≤ at → part_left at ≡ 512 - at % 512
left_high at ge = ap (λ (t : Bool). if t then 384 - at else 512 - at % 512) (le-ltb at 384 ge)

module _ (content : ℕ → List ℕ) (inode at n : ℕ) where
  pub in_inode : at < 384 → n ≤ part_left at → map (slice_index (content inode)) (range_with_len (128 + at) n) ≡ bytes_from content inode at n
  in_inode lt few =
      let left = left_low at lt in
      maps_same (slice_index (content inode)) (byte_of content inode) (128 + at) at n (λ k low.
      let e : 128 + at + k ≡ 128 + (at + k) = omega arith in
      let less : at + k < 384 = omega arith in
      ap (slice_index (content inode)) e ∙ sym (ap (λ (t : Bool). if t then slice_index (content inode) (128 + (at + k)) else leaf_byte content (leaf_block content inode ((at + k) / 512)) ((at + k) % 512)) (lt-ltb (at + k) 384 less)))

  pub in_leaf : (block : ℕ) → block ≡ leaf_block content inode (at / 512) → 384 ≤ at → n ≤ part_left at → map (leaf_byte content block) (range_with_len (at % 512) n) ≡ bytes_from content inode at n
  in_leaf block is ge few =
      let left = left_high at ge in
      maps_same (leaf_byte content block) (byte_of content inode) (at % 512) at n (λ k low.
      let i : at / 512 ≡ (at + k) / 512 = omega arith in
      let p : at % 512 + k ≡ (at + k) % 512 = omega arith in
      let more : 384 ≤ at + k = omega arith in
      ap (λ b. leaf_byte content b (at % 512 + k)) (is ∙ ap (leaf_block content inode) i) ∙ (ap (leaf_byte content (leaf_block content inode ((at + k) / 512))) p
      ∙ sym (ap (λ (t : Bool). if t then slice_index (content inode) (128 + (at + k)) else leaf_byte content (leaf_block content inode ((at + k) / 512)) ((at + k) % 512)) (le-ltb (at + k) 384 more))))

-- one more part is read
pub read_step : (f : ℕ → ℕ) (start done n k : ℕ) (now old part : List ℕ) → k ≡ n → done + n ≤ length old → now ≡ map f (range_with_len start done) ++ drop done old →
    part ≡ map f (range_with_len (start + done) (length (take k (drop done now)))) → put_mid done k now part ≡ map f (range_with_len start (done + n)) ++ drop (done + n) old
read_step f start done n k now old part same within is new =
    let front = map f (range_with_len start done) in
    let rest = drop done old in
    let long : length front ≡ done = length-map-range_with_len f start done in
    let whole : length now ≡ length old = ap length is ∙ (length-append front rest ∙ (let r = length-drop done old in omega arith)) in
    let here : length (take k (drop done now)) ≡ n = simp (length-take, length-drop) (omega arith) in
    let is_part : part ≡ map f (range_with_len (start + done) n) = new ∙ ap (λ x. map f (range_with_len (start + done) x)) here in
    let size : length part ≡ n = ap length is_part ∙ length-map-range_with_len f (start + done) n in
    let taken : take (done + n) (put_mid done k now part) ≡ take done now ++ part = take-put_mid done k now part (done + n) (omega arith) (omega arith) in
    let dropped : drop (done + n) (put_mid done k now part) ≡ drop (done + n) now = drop-put_mid done k now part (done + n) (omega arith) (omega arith) (omega arith) in
    let begin : take done now ≡ front = ap (take done) is ∙ (ap (λ x. take x (front ++ rest)) (sym long) ∙ take-append_seam front rest) in
    let past : done + n ≡ length front + n = omega arith in
    let end : drop (done + n) now ≡ drop (done + n) old = ap (drop (done + n)) is ∙ (ap (λ x. drop x (front ++ rest)) past ∙ (drop-append-add front rest n ∙ drop-drop n done old)) in
    sym (take-append-drop (done + n) (put_mid done k now part))
    ∙ (ap (λ x. x ++ drop (done + n) (put_mid done k now part)) (taken ∙ (ap (λ x. x ++ part) begin ∙ (ap (λ x. front ++ x) is_part ∙ sym (maps_append f start done n))))
    ∙ ap (λ x. map f (range_with_len start (done + n)) ++ x) (dropped ∙ end))
