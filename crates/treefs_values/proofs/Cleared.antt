-- Pointers of one block become 0 by an edit that drops the blocks to which they led.
use Rattle.std.proofs.Common.{◌≡◌, ◌≢◌, ◌⊎◌, ℕ, zero, suc, ◌+◌, ◌*◌, ◌-◌, ◌/◌, ◌%◌, ◌<◌, ◌≤◌, Bool, true, false, List, [], ◌∷◌, length, take, drop, replicate, Option, refl, sym, ◌∙◌, ap, inl, inr, arith, subst, if◌then◌else◌}
use Rattle.std.specs.Prelude.{All, Contains, IsTrue, map}
use Rattle.std.specs.Int.{from_le_bytes, w32}
use Rattle.std.proofs.lemmas.Bool.{cases_lt, ne_eqb}
use Rattle.std.proofs.lemmas.List.{length-drop, length-replicate, take_all}
use Rattle.std.proofs.lemmas.List.Elements.{All-head, All-replicate, All-tail}
use Rattle.xn_model.specs.Calls.{patched}
use Rattle.xn_model.specs.Lists.{has_number, put}
use Rattle.xn_model.specs.Root.{word_at}
use Rattle.xn_model.proofs.ForCallers.{Contains-cons, Contains-head, Contains-none, Contains-tail, has_number_at}
use Rattle.ffs_model.proofs.ForCallers.{bytes_apart, word_apart, word_within}
use Rattle.treefs_format.specs.Fields.{fields_of}
use Rattle.treefs_format.specs.Inodes.{content_of}
use Rattle.treefs_format.specs.Numbers.{word_bytes}
use Rattle.treefs_format.proofs.ForCallers.{pointers_others}
use Rattle.treefs_model.specs.Acts.{Act}
use Rattle.treefs_model.specs.Reading.{pointed}
use Rattle.treefs_model.specs.Trees.{has_pointer}
use Rattle.treefs_edits.specs.Written.{written}
use Rattle.treefs_values.specs.Dropped.{AreDropped, AreOverPointers, IsCovered, IsLedTo, IsLost, clear_act, with_blocks, zero_patch}
use Rattle.treefs_values.specs.Volumes.{IsWholeBlock}
use Rattle.treefs_values.proofs.PointerSet.{any_offset, inode_offset}
use Rattle.treefs_values.proofs.Putting.{block_put, written_here, written_other}

-- Zeros

zero_words : (n : ℕ) → word_bytes (replicate n 0) ≡ replicate (4 * n) 0
zero_words zero = refl
zero_words (suc n) =
    let more : 4 * suc n ≡ suc (suc (suc (suc (4 * n)))) = omega arith in
    ap (λ bytes. 0 ∷ 0 ∷ 0 ∷ 0 ∷ bytes) (zero_words n) ∙ ap (λ k. replicate k 0) (sym more)

zeros_from : (j n : ℕ) → drop {A = ℕ} j (replicate {A = ℕ} n 0) ≡ replicate {A = ℕ} (n - j) 0
zeros_from zero n = let same : n ≡ n - 0 = omega arith in ap (λ k. replicate {A = ℕ} k 0) same
zeros_from (suc j) zero = let same : 0 ≡ 0 - suc j = omega arith in ap (λ k. replicate {A = ℕ} k 0) same
zeros_from (suc j) (suc n) = let same : n - j ≡ suc n - suc j = omega arith in zeros_from j n ∙ ap (λ k. replicate {A = ℕ} k 0) same

zero_word : (j n : ℕ) → j + 4 ≤ n → word_at (replicate n 0) j ≡ 0
unfolding word_at
zero_word j n few = ap (λ m. from_le_bytes w32 (take 4 m)) (zeros_from j n) ∙ by (n - j) (omega arith)
  where
    by : (k : ℕ) → 4 ≤ k → from_le_bytes w32 (take 4 (replicate k 0)) ≡ 0
    by zero low = absurd (omega arith)
    by (suc zero) low = absurd (omega arith)
    by (suc (suc zero)) low = absurd (omega arith)
    by (suc (suc (suc zero))) low = absurd (omega arith)
    by (suc (suc (suc (suc k)))) low = refl

all_of : {A : Type 0} (P : A → Type 0) (xs : List A) (x : A) → All P xs → Contains xs x → P x
all_of P xs x all has = subst P has.2 (all has.0 x has.1)

module _ (node inode t : ℕ) (other : node ≢ inode) where
  -- of a block of this type, with these bytes
  pub record AreCleared (m m' : List ℕ) (places : List (ℕ × ℕ)) : Type 0 where
    pub whole : IsWholeBlock m'
    pub words : (o : ℕ) → IsTrue (has_pointer node inode t o) → (word_at m' o ≡ word_at m o) ⊎ (IsCovered places o × (word_at m' o ≡ 0))
    pub gone : (o : ℕ) → IsTrue (has_pointer node inode t o) → IsCovered places o → word_at m' o ≡ 0
    pub fields : t ≡ inode → fields_of m' ≡ fields_of m
    pub contents : t ≡ inode → content_of m' ≡ content_of m

  -- pointers side by side
  module _ (m : List ℕ) (whole : IsWholeBlock m) (p : ℕ × ℕ) (over : AreOverPointers node inode t p) where
    abbrev bytes : List ℕ
    bytes = replicate (4 * p.1) 0

    abbrev now : List ℕ
    now = put m p.0 bytes

    long : length bytes ≡ 4 * p.1
    long = length-replicate (4 * p.1) 0

    first : (p.0 + 4 ≤ 512) × (p.0 % 4 ≡ 0)
    first = let some : 0 < p.1 = over.0 in let same : p.0 + 4 * 0 ≡ p.0 = omega arith in
        subst (λ o. (o + 4 ≤ 512) × (o % 4 ≡ 0)) same (any_offset node inode t (p.0 + 4 * 0) (over.1 0 some))

    last : p.0 + 4 * p.1 ≤ 512
    last =
        let some : 0 < p.1 = over.0 in
        let l : p.0 + 4 * (p.1 - 1) + 4 ≤ 512 = (any_offset node inode t (p.0 + 4 * (p.1 - 1)) (over.1 (p.1 - 1) (omega arith))).0 in
        omega arith

    fits : p.0 + length bytes ≤ length m
    fits = let l = long in let n : length m ≡ 512 = whole.0 in let e = last in omega arith

    put_whole : IsWholeBlock now
    put_whole = block_put m bytes p.0 whole (All-replicate (λ b. b < 256) (4 * p.1) 0 (omega arith)) (let l = long in let e = last in omega arith)

    zero_at : (o : ℕ) → (i : ℕ) → i < p.1 → o ≡ p.0 + 4 * i → word_at now o ≡ 0
    zero_at o i lt is = word_within m p.0 bytes fits o (4 * i) is (let l = long in omega arith) ∙ zero_word (4 * i) (4 * p.1) (omega arith)

    word_case : (o : ℕ) → (o + 4 ≤ 512) × (o % 4 ≡ 0) → (o < p.0) ⊎ (p.0 ≤ o) → (o < p.0 + 4 * p.1) ⊎ (p.0 + 4 * p.1 ≤ o) →
        (word_at now o ≡ word_at m o) ⊎ (IsCovered (p ∷ []) o × (word_at now o ≡ 0))
    word_case o at (inl below) high =
        let a : o % 4 ≡ 0 = at.1 in let b : p.0 % 4 ≡ 0 = first.1 in inl (word_apart m p.0 bytes fits o (inl (omega arith)))
    word_case o at (inr past) (inr behind) = inl (word_apart m p.0 bytes fits o (inr (let l = long in omega arith)))
    word_case o at (inr past) (inl within) =
        let a : o % 4 ≡ 0 = at.1 in let b : p.0 % 4 ≡ 0 = first.1 in
        let lt : (o - p.0) / 4 < p.1 = omega arith in
        let is : o ≡ p.0 + 4 * ((o - p.0) / 4) = omega arith in
        inr ((p, Contains-head p [], (o - p.0) / 4, lt, is), zero_at o ((o - p.0) / 4) lt is)

    inode_place : t ≡ inode → (48 ≤ p.0) × (p.0 + 4 * p.1 ≤ 128)
    inode_place is =
        let some : 0 < p.1 = over.0 in
        let low : 48 ≤ p.0 + 4 * 0 = (inode_offset node inode t (p.0 + 4 * 0) other is (over.1 0 some)).0 in
        let high : p.0 + 4 * (p.1 - 1) + 4 ≤ 128 = (inode_offset node inode t (p.0 + 4 * (p.1 - 1)) other is (over.1 (p.1 - 1) (omega arith))).1 in
        (omega arith, omega arith)

    one_fields : t ≡ inode → fields_of now ≡ fields_of m
    one_fields is =
        let at = inode_place is in
        let low : 48 ≤ p.0 = at.0 in
        let high : p.0 + 4 * p.1 ≤ 128 = at.1 in
        let aligned : p.0 % 4 ≡ 0 = first.1 in
        let same : 48 + 4 * ((p.0 - 48) / 4) ≡ p.0 = omega arith in
        let n : length (replicate {A = ℕ} p.1 0) ≡ p.1 = length-replicate p.1 0 in
        (λ j. fields_of (put m (sym same j) (sym (zero_words p.1) j))) ∙ (pointers_others m (replicate {A = ℕ} p.1 0) ((p.0 - 48) / 4) whole.0 (omega arith)).0

    one_contents : t ≡ inode → content_of now ≡ content_of m
    one_contents is =
        let at = inode_place is in
        let high : p.0 + 4 * p.1 ≤ 128 = at.1 in
        let l = long in
        let n : length m ≡ 512 = whole.0 in
        let n' : length now ≡ 512 = put_whole.0 in
        let rest = length-drop 128 m in
        let rest' = length-drop 128 now in
        sym (take_all 384 (drop 128 now) (omega arith))
        ∙ (bytes_apart m p.0 bytes fits 384 128 (inr (omega arith)) ∙ take_all 384 (drop 128 m) (omega arith))

    pub one_cleared : AreCleared m now (p ∷ [])
    one_cleared = record {
      whole = put_whole;
      words = λ o has. word_case o (any_offset node inode t o has) (cases_lt o p.0) (cases_lt o (p.0 + 4 * p.1));
      gone = λ o has cover. by o cover (Contains-cons p [] cover.0 cover.1);
      fields = one_fields;
      contents = one_contents;
    }
      where
        by : (o : ℕ) (cover : IsCovered (p ∷ []) o) → (p ≡ cover.0) ⊎ Contains [] cover.0 → word_at now o ≡ 0
        by o cover (inl same) = zero_at o cover.2 (subst (λ (q : ℕ × ℕ). cover.2 < q.1) (sym same) cover.3) (cover.4 ∙ ap (λ (q : ℕ × ℕ). q.0 + 4 * cover.2) (sym same))
        by o cover (inr none) = absurd (Contains-none cover.0 none)

  cover_more : (p : ℕ × ℕ) (ps : List (ℕ × ℕ)) (o : ℕ) → IsCovered ps o → IsCovered (p ∷ ps) o
  cover_more p ps o cover = (cover.0, Contains-tail p ps cover.0 cover.1, cover.2, cover.3, cover.4)

  cover_first : (p : ℕ × ℕ) (ps : List (ℕ × ℕ)) (o : ℕ) → IsCovered (p ∷ []) o → IsCovered (p ∷ ps) o
  cover_first p ps o cover = elim (Contains-cons p [] cover.0 cover.1) [
    | inl same ↦ (p, Contains-head p ps, cover.2, subst (λ (q : ℕ × ℕ). cover.2 < q.1) (sym same) cover.3, cover.4 ∙ ap (λ (q : ℕ × ℕ). q.0 + 4 * cover.2) (sym same))
    | inr none ↦ absurd (Contains-none cover.0 none)
  ]

  cover_parts : (p : ℕ × ℕ) (ps : List (ℕ × ℕ)) (o : ℕ) → IsCovered (p ∷ ps) o → IsCovered (p ∷ []) o ⊎ IsCovered ps o
  cover_parts p ps o cover = elim (Contains-cons p ps cover.0 cover.1) [
    | inl same ↦ inl (p, Contains-head p [], cover.2, subst (λ (q : ℕ × ℕ). cover.2 < q.1) (sym same) cover.3, cover.4 ∙ ap (λ (q : ℕ × ℕ). q.0 + 4 * cover.2) (sym same))
    | inr rest ↦ inr (cover.0, rest, cover.2, cover.3, cover.4)
  ]

  cleared_then : (m n k : List ℕ) (p : ℕ × ℕ) (ps : List (ℕ × ℕ)) → AreCleared m n (p ∷ []) → AreCleared n k ps → AreCleared m k (p ∷ ps)
  cleared_then m n k p ps a b = record {
    whole = b.whole;
    words = λ o has. elim (b.words o has) [
      | inl same ↦ elim (a.words o has) [
        | inl same' ↦ inl (same ∙ same')
        | inr none ↦ inr (cover_first p ps o none.0, same ∙ none.1)
      ]
      | inr none ↦ inr (cover_more p ps o none.0, none.1)
    ];
    gone = λ o has cover. elim (cover_parts p ps o cover) [
      | inl one ↦ elim (b.words o has) [ inl same ↦ same ∙ a.gone o has one | inr none ↦ none.1 ]
      | inr rest ↦ b.gone o has rest
    ];
    fields = λ is. b.fields is ∙ a.fields is;
    contents = λ is. b.contents is ∙ a.contents is;
  }

  pub all_cleared : (places : List (ℕ × ℕ)) (m : List ℕ) → IsWholeBlock m → All (AreOverPointers node inode t) places → AreCleared m (patched m (map zero_patch places)) places
  all_cleared [] m whole over = record {
    whole = whole;
    words = λ o has. inl refl;
    gone = λ o has cover. absurd (Contains-none cover.0 cover.1);
    fields = λ is. refl;
    contents = λ is. refl;
  }
  all_cleared (p ∷ ps) m whole over =
      let one = one_cleared m whole p (All-head (AreOverPointers node inode t) p ps over) in
      cleared_then m (put m p.0 (replicate (4 * p.1) 0)) (patched (put m p.0 (replicate (4 * p.1) 0)) (map zero_patch ps)) p ps one
      (all_cleared ps (put m p.0 (replicate (4 * p.1) 0)) one.whole (All-tail (AreOverPointers node inode t) p ps over))

-- The edit

module _ (node inode : ℕ) (type : ℕ → ℕ) (old : ℕ → List ℕ) (holder : ℕ) (places : List (ℕ × ℕ)) (blocks : List ℕ) (behind : Option ℕ) (other : node ≢ inode) (some : holder ≢ 0)
    (whole : IsWholeBlock (old holder)) (over : All (AreOverPointers node inode (type holder)) places) (led : All (IsLedTo old holder places) blocks)
    (apart : has_number blocks holder ≡ false) where
  abbrev act : Act
  act = clear_act holder places blocks behind

  abbrev new : ℕ → List ℕ
  new = with_blocks (written act old) blocks []

  abbrev type' : ℕ → ℕ
  type' = with_blocks type blocks 0

  here : new holder ≡ patched (old holder) (map zero_patch places)
  here = ap (λ t. if t then [] else written act old holder) apart ∙ written_here act old holder refl

  c : AreCleared node inode (type holder) other (old holder) (patched (old holder) (map zero_patch places)) places
  c = all_cleared node inode (type holder) other places (old holder) whole over

  word_of : (content : ℕ → List ℕ) (o : ℕ) → pointed content holder o ≡ word_at (content holder) o
  word_of content o = ap (λ t. if t then 0 else word_at (content holder) o) (ne_eqb holder 0 some)

  pub cleared_whole : IsWholeBlock (new holder)
  cleared_whole = subst IsWholeBlock (sym here) c.whole

  -- each place is one of a pointer
  covered_pointer : (o : ℕ) → IsCovered places o → IsTrue (has_pointer node inode (type holder) o)
  covered_pointer o cover = subst (λ x. IsTrue (has_pointer node inode (type holder) x)) (sym cover.4)
      ((all_of (AreOverPointers node inode (type holder)) places cover.0 over cover.1).1 cover.2 cover.3)

  lost_of : (b : ℕ) → has_number blocks b ≡ true → IsLost node inode type type' old new holder places b
  lost_of b e =
      let l = all_of (IsLedTo old holder places) blocks b led (has_number_at blocks b e) in
      let has = covered_pointer l.1 l.2 in
      record {
        there = l.0;
        unread = ap (λ t. if t then 0 else type b) e;
        offset = l.1;
        covered = l.2;
        pointer = has;
        led = l.3;
        nowhere = word_of new l.1 ∙ (ap (λ m. word_at m l.1) here ∙ c.gone l.1 has l.2);
      }

  pub pointers_cleared : AreDropped node inode type type' old new holder places
  pointers_cleared = record {
    typed = ap (λ t. if t then 0 else type holder) apart;
    pointers = λ o has. elim (c.words o has) [
      | inl same ↦ inl (word_of new o ∙ (ap (λ m. word_at m o) here ∙ (same ∙ sym (word_of old o))))
      | inr none ↦ inr (none.0, word_of new o ∙ (ap (λ m. word_at m o) here ∙ none.1))
    ];
    others = λ b ne. by b ne (has_number blocks b) refl;
    fields = λ is. ap fields_of here ∙ c.fields is;
    contents = λ is. ap content_of here ∙ c.contents is;
  }
    where
      by : (b : ℕ) → b ≢ holder → (t : Bool) → has_number blocks b ≡ t →
          ((type' b ≡ type b) × (new b ≡ old b)) ⊎ IsLost node inode type type' old new holder places b
      by b ne true e = inr (lost_of b e)
      by b ne false e = inl (ap (λ t. if t then 0 else type b) e, ap (λ t. if t then [] else written act old b) e ∙ written_other act old b ne)
