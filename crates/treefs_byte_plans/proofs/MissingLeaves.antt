-- Leaves that are missing, and new ones, one after another.
use Rattle.std.proofs.Common.{◌≡◌, ℕ, zero, suc, ◌+◌, ◌-◌, ◌<◌, ◌≤◌, ◌≢◌, Bool, true, false, List, [], ◌∷◌, ◌++◌, sym, ◌∙◌, ap, append_assoc, arith, eq-eqb, get_or, length, length-append, ne_eqb, set, take, drop, ◌==◌, if◌then◌else◌}
use Rattle.std.specs.Prelude.{None}
use Rattle.std.proofs.lemmas.List.{drop-drop, get_or_at, set_at}
use borrow.Rule.Slice.PartMut.{put_mid}
use Rattle.xn_model.specs.BareDisks.{zeros}
use Rattle.xn_model.specs.Lists.{put}
use Rattle.treefs_edits.specs.declared.start.Start.{Start}
use Rattle.treefs_model.specs.Acts.{Act, attach_act}
use Rattle.treefs_model.specs.Reading.{leaf_block}
use Rattle.treefs_byte_plans.specs.Runs.{attach_acts, leaf_of, leaf_starts, missing_count}

module _ (content : ℕ → List ℕ) (inode : ℕ) where
  count_on : (leaf left : ℕ) (t : Bool) → 0 < left → (leaf_block content inode leaf == 0) ≡ t →
      missing_count content inode leaf left ≡ (if t then 1 + missing_count content inode (leaf + 1) (left - 1) else 0)
  count_on leaf zero t lt e = let none : ⊥ = omega arith in absurd none
  count_on leaf (suc n) t lt e =
      let same : suc n - 1 ≡ n = omega arith in
      ap (λ (b : Bool). if b then 1 + missing_count content inode (leaf + 1) n else 0) e
      ∙ ap (λ (k : ℕ). if t then 1 + missing_count content inode (leaf + 1) k else 0) (sym same)

  pub one_more : (all leaf most count block : ℕ) → count < most → block ≡ leaf_block content inode (leaf + count) → block ≡ 0 →
      all ≡ count + missing_count content inode (leaf + count) (most - count) → all ≡ (count + 1) + missing_count content inode (leaf + (count + 1)) (most - (count + 1))
  one_more all leaf most count block lt is none e =
      let some : 0 < most - count = omega arith in
      let here = count_on (leaf + count) (most - count) true some (eq-eqb (leaf_block content inode (leaf + count)) 0 (sym is ∙ none)) in
      let place : leaf + count + 1 ≡ leaf + (count + 1) = omega arith in
      let left : most - count - 1 ≡ most - (count + 1) = omega arith in
      let next : missing_count content inode (leaf + count + 1) (most - count - 1) ≡ missing_count content inode (leaf + (count + 1)) (most - (count + 1)) =
      ap (λ (k : ℕ). missing_count content inode k (most - count - 1)) place ∙ ap (missing_count content inode (leaf + (count + 1))) left in
      omega (arith, e, here, next)

  pub no_more : (all leaf most count block : ℕ) → count < most → block ≡ leaf_block content inode (leaf + count) → block ≢ 0 →
      all ≡ count + missing_count content inode (leaf + count) (most - count) → count ≡ all
  no_more all leaf most count block lt is some e =
      let left : 0 < most - count = omega arith in
      let here = count_on (leaf + count) (most - count) false left (ne_eqb (leaf_block content inode (leaf + count)) 0 (λ z. some (is ∙ z))) in
      omega (arith, e, here)

  pub all_counted : (all leaf most count : ℕ) → most ≤ count → count ≤ most → all ≡ count + missing_count content inode (leaf + count) (most - count) → most ≡ all
  all_counted all leaf most count ge le e =
      let none : most - count ≡ 0 = omega arith in
      let here : missing_count content inode (leaf + count) (most - count) ≡ 0 = ap (missing_count content inode (leaf + count)) none in
      omega (arith, e, here)

leaf_more : (left place : ℕ) (rest : List ℕ) → 0 < left →
    leaf_starts left place rest ≡ record { ty = 2; bytes = leaf_of place (take (512 - place) rest) } ∷ leaf_starts (left - 1) 0 (drop (512 - place) rest)
leaf_more zero place rest lt = let none : ⊥ = omega arith in absurd none
leaf_more (suc n) place rest lt =
    let same : suc n - 1 ≡ n = omega arith in
    ap (λ (k : ℕ). record { ty = 2; bytes = leaf_of place (take (512 - place) rest) } ∷ leaf_starts k 0 (drop (512 - place) rest)) (sym same)

attach_more : (left holder offset : ℕ) (rest : List ℕ) → 0 < left →
    attach_acts left holder offset rest ≡ attach_act holder offset 2 (take 16 rest) None ∷ attach_acts (left - 1) holder (offset + 64) (drop 16 rest)
attach_more zero holder offset rest lt = let none : ⊥ = omega arith in absurd none
attach_more (suc n) holder offset rest lt =
    let same : suc n - 1 ≡ n = omega arith in
    ap (λ (k : ℕ). attach_act holder offset 2 (take 16 rest) None ∷ attach_acts k holder (offset + 64) (drop 16 rest)) (sym same)

-- one more is pushed in a loop

pub leaf_pushed : (all starts longer : List Start) (left place : ℕ) (front rest next : List ℕ) → 0 < left →
    front ≡ take (512 - place) rest → next ≡ drop (512 - place) rest → longer ≡ starts ++ record { ty = 2; bytes = leaf_of place front } ∷ [] →
    starts ++ leaf_starts left place rest ≡ all → longer ++ leaf_starts (left - 1) 0 next ≡ all
leaf_pushed all starts longer left place front rest next lt is_front is_next pushed e =
    let start : Start = record { ty = 2; bytes = leaf_of place front } in
    let more = leaf_more left place rest lt in
    let first : leaf_starts left place rest ≡ start ∷ leaf_starts (left - 1) 0 next = cc in
    ap (λ l. l ++ leaf_starts (left - 1) 0 next) pushed
    ∙ (append_assoc starts (start ∷ []) (leaf_starts (left - 1) 0 next) ∙ (ap (λ l. starts ++ l) (sym first) ∙ e))

pub attach_pushed : (all acts longer : List Act) (act : Act) (left holder offset ty : ℕ) (some rest next : List ℕ) → 0 < left → ty ≡ 2 → some ≡ take 16 rest →
    next ≡ drop 16 rest → act ≡ attach_act holder offset ty some None → longer ≡ acts ++ act ∷ [] →
    acts ++ attach_acts left holder offset rest ≡ all → longer ++ attach_acts (left - 1) holder (offset + 64) next ≡ all
attach_pushed all acts longer act left holder offset ty some rest next lt is_ty is_some is_next is_act pushed e =
    let more = attach_more left holder offset rest lt in
    let is : act ≡ attach_act holder offset 2 (take 16 rest) None = is_act ∙ (ap (λ (t : ℕ). attach_act holder offset t some None) is_ty ∙ ap (λ (l : List ℕ). attach_act holder offset 2 l None) is_some) in
    let first : attach_acts left holder offset rest ≡ act ∷ attach_acts (left - 1) holder (offset + 64) next =
    more ∙ (ap (λ (a : Act). a ∷ attach_acts (left - 1) holder (offset + 64) (drop 16 rest)) (sym is) ∙ ap (λ (l : List ℕ). act ∷ attach_acts (left - 1) holder (offset + 64) l) (sym is_next)) in
    ap (λ l. l ++ attach_acts (left - 1) holder (offset + 64) next) pushed
    ∙ (append_assoc acts (act ∷ []) (attach_acts (left - 1) holder (offset + 64) next) ∙ (ap (λ l. acts ++ l) (sym first) ∙ e))

-- the last start, which was just pushed, gets its bytes
pub last_started : (starts longer : List Start) (made start : Start) (place len : ℕ) (leaf bytes : List ℕ) → longer ≡ starts ++ made ∷ [] → len ≡ length longer →
    start ≡ get_or longer (len - 1) start → made.ty ≡ 2 → leaf ≡ leaf_of place bytes →
    set longer (len - 1) (record { ty = start.ty; bytes = leaf }) ≡ starts ++ record { ty = 2; bytes = leaf_of place bytes } ∷ []
last_started starts longer made start place len leaf bytes pushed is_len is_start is_ty is_leaf =
    let longer_by = ap length pushed ∙ length-append starts (made ∷ []) in
    let at : length starts ≡ len - 1 = omega (arith, is_len, longer_by) in
    let is_made : start ≡ made = is_start ∙ (ap (λ (l : List Start). get_or l (len - 1) start) pushed ∙ get_or_at starts made [] start (len - 1) at) in
    let same : record { ty = start.ty; bytes = leaf } ≡ record { ty = 2; bytes = leaf_of place bytes } = cc in
    ap (λ (l : List Start). set l (len - 1) (record { ty = start.ty; bytes = leaf })) pushed
    ∙ (set_at starts made [] (record { ty = start.ty; bytes = leaf }) (len - 1) at ∙ ap (λ (s : Start). starts ++ s ∷ []) same)

-- bytes that are copied into a block of zeros
pub copied : (place count : ℕ) (block bytes part : List ℕ) → block ≡ zeros 512 → count ≡ length bytes → part ≡ bytes →
    put_mid place count block part ≡ put (zeros 512) place bytes
copied place count block bytes part is_blank is_count is_part =
    ap (λ (b : List ℕ). put_mid place count b part) is_blank
    ∙ (ap (λ (p : List ℕ). take place (zeros 512) ++ (p ++ drop count (drop place (zeros 512)))) is_part
    ∙ (ap (λ (k : ℕ). take place (zeros 512) ++ (bytes ++ drop k (drop place (zeros 512)))) is_count
    ∙ (ap (λ (l : List ℕ). take place (zeros 512) ++ (bytes ++ l)) (drop-drop (length bytes) place (zeros 512))
    ∙ sym (append_assoc (take place (zeros 512)) bytes (drop (place + length bytes) (zeros 512))))))
