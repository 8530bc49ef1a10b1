-- What `reclaim` does is what its function of the files says, or one of its stages.
use Rattle.std.proofs.Common.{◌≡◌, ℕ, suc, ◌+◌, ◌-◌, ◌<◌, ◌≤◌, Bool, true, false, List, [], ◌∷◌, ◌++◌, Option, Result, Ok, Err, refl, sym, ◌∙◌, ap, arith, subst, inl, inr, eq-eqb, IsErrAnd, ◌==◌, flat_map, if◌then◌else◌, le-ltb, lt-ltb}
use Rattle.ffs_lib.proofs.Common.{Answer, FfsFault, Files, GiveUp, IsConsistent, IsLibrary, Keep, Pending, Repair, Repairs, SetLinks, StoreState, Types}
use Rattle.ffs_lib.proofs.Common.{cases_eq, cases_lt, err_from_is_err_and, files_of, idle_in, if_idle, is_short, latest, pending_of, range_with_len, repair_at}
use Rattle.ffs_lib.proofs.Common.{repair_in}
use Rattle.std.proofs.lemmas.Grind.{flat_map-append}
use Rattle.ffs_lookup.proofs.ForCallers.{unnumbered_repair}
use Rattle.ffs_lib.specs.Reclaiming.{InMiddle, LeftByRepair, Reclaims, Repaired, StopsRepairing, needs, reclaimed, reclaimed_stages, repair_stages, repaired, repaired_below, stages_at}
use Rattle.ffs_lib.specs.Results.{AsBefore, SameInode}
use Rattle.ffs_lib.specs.Stages.{Asks, Does, IsRefused, IsStage, OfLink, Stages, cut_short}
use Rattle.ffs_lib.proofs.Moving.{same_as}
use Rattle.ffs_lib.proofs.Reclaiming.{idle_ok, middle_ends, repaired_then}
use Rattle.ffs_lib.proofs.Same.{same_on}
use Rattle.ffs_lib.proofs.Staged.{first_stages, kept_or_emptied, later_stages, same_here, short_at}
use Rattle.ffs_lib.proofs.ValueRepairs.{need_is, range_split, repaired_value}
use Rattle.ffs_lib.proofs.ValueSame.{same_value}
use Rattle.ffs_lib.proofs.ValueSteps.{files_equal, value_at}

-- What the files don't say

same_left : (u w : ℕ → List ℕ) (fs n : ℕ) (repair : Repair) → SameInode u w fs n → LeftByRepair u w fs n repair
same_left u w fs n Keep s = s
same_left u w fs n GiveUp s = inr (s.0, λ inode i. inl (s.1 inode i))
same_left u w fs n (SetLinks links) s = same_as u w fs n s

repaired_left : (u w : ℕ → List ℕ) (fs n : ℕ) (repair : Repair) → Repaired u w fs n repair → LeftByRepair u w fs n repair
repaired_left u w fs n Keep x = x
repaired_left u w fs n GiveUp x = inl x.1
repaired_left u w fs n (SetLinks links) x = λ inode i. (x inode i).0

-- an inode that is named is as before but for its links
pub named_left : (old new : ℕ → List ℕ) (fs n : ℕ) → (needs (files_of old fs) n ≡ GiveUp → ⊥) → LeftByRepair old new fs n (needs (files_of old fs) n) → AsBefore old new fs n
named_left old new fs n named x = go (needs (files_of old fs) n) refl x
  where
    go : (repair : Repair) → needs (files_of old fs) n ≡ repair → LeftByRepair old new fs n repair → AsBefore old new fs n
    go Keep e y = same_as old new fs n y
    go GiveUp e y = absurd (named e)
    go (SetLinks links) e y = y

-- Stages in a list

first_refused : (T : Types) (fs : ℕ) (old new : StoreState) (fault : FfsFault) (xs ys : Stages) → IsRefused T fs old new fault xs → IsRefused T fs old new fault (xs ++ ys)
first_refused T fs old new fault [] ys none = absurd none
first_refused T fs old new fault (x ∷ xs) ys s = elim s [ inl here ↦ inl here | inr later ↦ inr (first_stages T fs new fault xs ys later) ]

-- Some of the inodes are repaired

module _ (T : Types) (lib : IsLibrary T) (fs : ℕ) (few : fs < 32) (array : ℕ → Option ℕ) (old now : StoreState) (done : ℕ) (x : InMiddle T fs array old now done) where
  abbrev u : ℕ → List ℕ
  u = latest old.lives

  abbrev v : ℕ → List ℕ
  v = latest now.lives

  abbrev files : Files
  files = files_of u fs

  below : (n : ℕ) → n ≤ done → Repaired u v fs n (repair_in u fs n)
  below n le = elim (cases_eq n 0) [
    | inl e ↦ subst (Repaired u v fs n) (sym (unnumbered_repair u fs n (inl e))) (x.later n (inl e))
    | inr some ↦ x.before n some le
  ]

  module _ (next : ℕ) (is : next ≡ done + 1) (low : next ≤ 128) where
    middle_value : files_of v fs ≡ repaired_below files next
    middle_value = files_equal (λ n. elim (cases_lt n next) [
      | inl lt ↦
          repaired_value u v fs n (repair_in u fs n) refl (below n (omega (arith, lt, is)))
          ∙ (ap (λ r. repaired r (files n)) (need_is u fs n) ∙ sym (ap (λ t. if t then repaired (needs files n) (files n) else files n) (lt-ltb n next lt)))
      | inr ge ↦ same_value u v fs n (x.later n (inr (omega (arith, ge, is)))) ∙ sym (ap (λ t. if t then repaired (needs files n) (files n) else files n) (le-ltb n next ge))
    ])

    module _ (new : StoreState) (h : IsConsistent T new) (fault : FfsFault) where
      abbrev w : ℕ → List ℕ
      w = latest new.lives

      -- the next one could not be
      one_refused : (repair : Repair) → StopsRepairing T fs now new next repair fault → IsRefused T fs now new fault (repair_stages (files_of v fs) next repair)
      one_refused Keep s = absurd (s.needed refl)
      one_refused GiveUp s =
          elim s.stage [
            | inl same ↦ inl (subst (λ (y : StoreState). Asks T fs (OfLink next) y new fault) same (refl, s.wants))
            | inr p ↦ inr (inl (new, value_at v w fs next (cut_short (files_of v fs next)) (short_at T lib fs few v new h next s.inode s.was s.is p.1) s.others, (refl, s.wants)))
          ]
      one_refused (SetLinks links) s = elim s.stage [
        | inl same ↦ inl (subst (λ (y : StoreState). Asks T fs (OfLink next) y new fault) same (refl, s.wants))
        | inr p ↦ absurd (cc p.0)
      ]

      is_stage : (repair : Repair) → IsRefused T fs now new fault (repair_stages (repaired_below files next) next repair) → IsStage T fs new fault (repair_stages (repaired_below files next) next repair)
      is_stage Keep none = none
      is_stage GiveUp s = elim s [ inl asks ↦ inl (now, middle_value, asks) | inr later ↦ inr later ]
      is_stage (SetLinks links) s = elim s [ inl asks ↦ inl (now, middle_value, asks) | inr later ↦ inr later ]

      abbrev rest : Stages
      rest = flat_map (stages_at files) (range_with_len (next + 1) (127 - done))

      split : reclaimed_stages files ≡ flat_map (stages_at files) (range_with_len 1 done) ++ (stages_at files next ++ rest)
      split =
          let all : 128 ≡ done + (128 - done) = omega (arith, low, is) in
          let on : 128 - done ≡ suc (127 - done) = omega (arith, low, is) in
          let e : 1 + done ≡ next = omega (arith, is) in
          ap (λ k. flat_map (stages_at files) (range_with_len 1 k)) all
          ∙ (ap (flat_map (stages_at files)) (range_split 1 done (128 - done))
          ∙ (flat_map-append (stages_at files) (range_with_len 1 done) (range_with_len (1 + done) (128 - done))
          ∙ ap (λ l. flat_map (stages_at files) (range_with_len 1 done) ++ l) (ap (λ k. flat_map (stages_at files) (range_with_len (1 + done) k)) on ∙ ap (λ k. flat_map (stages_at files) (range_with_len k (suc (127 - done)))) e)))

      pub all_refused : (repair : Repair) → repair ≡ repair_in u fs next → StopsRepairing T fs now new next repair fault → IsRefused T fs old new fault (reclaimed_stages files)
      all_refused repair e s = subst (IsRefused T fs old new fault) (sym split) (go (flat_map (stages_at files) (range_with_len 1 done)) (λ none. x.nothing none))
        where
          mine : IsRefused T fs now new fault (stages_at files next)
          mine = subst (λ (f : Files). IsRefused T fs now new fault (repair_stages f next (needs files next))) middle_value
              (one_refused (needs files next) (subst (λ r. StopsRepairing T fs now new next r fault) (e ∙ need_is u fs next) s))

          go : (front : Stages) → (front ≡ [] → now ≡ old) → IsRefused T fs old new fault (front ++ (stages_at files next ++ rest))
          go [] same = subst (λ (y : StoreState). IsRefused T fs y new fault (stages_at files next ++ rest)) (same refl) (first_refused T fs now new fault (stages_at files next) rest mine)
          go (y ∷ ys) same = inr (later_stages T fs new fault ys (stages_at files next ++ rest) (first_stages T fs new fault (stages_at files next) rest (is_stage (needs files next) mine)))

      pub refused_left : (repair : Repair) → repair ≡ repair_in u fs next → StopsRepairing T fs now new next repair fault → (n : ℕ) → LeftByRepair u w fs n (needs files n)
      refused_left repair e s n = subst (LeftByRepair u w fs n) (need_is u fs n) (elim (cases_eq n next) [
        | inl same ↦ subst (λ k. LeftByRepair u w fs k (repair_in u fs k)) (sym same) (subst (LeftByRepair u w fs next) e (mine repair s))
        | inr ne ↦ elim (cases_eq n 0) [
          | inl zeroth ↦ same_left u w fs n (repair_in u fs n) (same_on u v w fs n (x.later n (inl zeroth)) (s.others n ne))
          | inr some ↦ elim (cases_lt n next) [
            | inl lt ↦ repaired_left u w fs n (repair_in u fs n) (repaired_then u v w fs n some (omega (arith, lt, low)) (repair_in u fs n) (x.before n some (omega (arith, lt, is))) (s.others n ne))
            | inr ge ↦ same_left u w fs n (repair_in u fs n) (same_on u v w fs n (x.later n (inr (omega (arith, ge, is)))) (s.others n ne))
          ]
        ]
      ])
        where
          same_next : SameInode u v fs next
          same_next = x.later next (inr (omega (arith, is)))

          mine : (r : Repair) → StopsRepairing T fs now new next r fault → LeftByRepair u w fs next r
          mine Keep k = absurd (k.needed refl)
          mine GiveUp k = inr (kept_or_emptied T lib fs few u now new h next same_next k.inode k.was k.is (elim k.stage [
            | inl same ↦ inl same
            | inr p ↦ inr p.1
          ]))
          mine (SetLinks links) k = elim k.stage [
            | inl same ↦ same_as u w fs next (subst (λ (y : StoreState). SameInode u (latest y.lives) fs next) (sym same) same_next)
            | inr p ↦ absurd (cc p.0)
          ]

  pub all_left : done ≡ 128 → (n : ℕ) → LeftByRepair u v fs n (needs files n)
  all_left all n = subst (LeftByRepair u v fs n) (need_is u fs n) (repaired_left u v fs n (repair_in u fs n) (middle_ends T fs array old now done all x n))

  pub all_value : done ≡ 128 → (n : ℕ) → files_of v fs n ≡ repaired (needs files n) (files n)
  all_value all n = repaired_value u v fs n (repair_in u fs n) refl (middle_ends T fs array old now done all x n) ∙ ap (λ r. repaired r (files n)) (need_is u fs n)

-- The call

idle_answer : {A : Type 0} (state : StoreState) (fs : ℕ) (r : Result A FfsFault) → Ok tt ≡ idle_in state fs → if_idle state fs r ≡ r
idle_answer state fs r e = ap (λ (t : Bool). if t then r else Err Pending) (eq-eqb (pending_of state fs) 0 (idle_ok state fs e))

pub pending_reclaims : (T : Types) (fs : ℕ) (old : StoreState) (fault : FfsFault) → Err fault ≡ idle_in old fs → (result : Result Repairs FfsFault) → IsErrAnd result (λ other. other ≡ fault) → Reclaims T fs old old result
pending_reclaims T fs old fault e result from =
    let p = err_from_is_err_and result from in
    subst (Reclaims T fs old old) (sym (p.1 ∙ ap (λ (f : FfsFault). Err f) p.2)) (go (pending_of old fs == 0) e, λ n. same_left (latest old.lives) (latest old.lives) fs n (needs (files_of (latest old.lives) fs) n) (same_here (latest old.lives) fs n))
  where
    files : Files
    files = files_of (latest old.lives) fs

    go : (t : Bool) → Err fault ≡ (if t then Ok (tt {0}) else Err Pending) → Does T fs (if t then reclaimed files else Err Pending) (reclaimed_stages files) old old (Err fault)
    go true f = absurd (cc f)
    go false f = (cc f, refl)

pub refused_reclaims : (T : Types) (fs : ℕ) (old new : StoreState) (fault : FfsFault) → Ok tt ≡ idle_in old fs → is_short fault ≡ true → IsRefused T fs old new fault (reclaimed_stages (files_of (latest old.lives) fs)) →
    ((n : ℕ) → LeftByRepair (latest old.lives) (latest new.lives) fs n (needs (files_of (latest old.lives) fs) n)) → (result : Result Repairs FfsFault) → IsErrAnd result (λ other. other ≡ fault) → Reclaims T fs old new result
refused_reclaims T fs old new fault e short refused left result from =
    let p = err_from_is_err_and result from in
    let files = files_of (latest old.lives) fs in
    subst (Reclaims T fs old new) (sym (p.1 ∙ ap (λ (f : FfsFault). Err f) p.2))
    (subst (λ (a : Answer (ℕ → Repair)). Does T fs a (reclaimed_stages files) old new (Err fault)) (sym (idle_answer old fs (reclaimed files) e)) (short, refused), left)

pub done_reclaims : (T : Types) (fs : ℕ) (old new : StoreState) (repairs : Repairs) → Ok tt ≡ idle_in old fs → ((n : ℕ) → repair_at repairs.each n ≡ repair_in (latest old.lives) fs n) →
    ((n : ℕ) → files_of (latest new.lives) fs n ≡ repaired (needs (files_of (latest old.lives) fs) n) (files_of (latest old.lives) fs n)) →
    ((n : ℕ) → LeftByRepair (latest old.lives) (latest new.lives) fs n (needs (files_of (latest old.lives) fs) n)) → Reclaims T fs old new (Ok repairs)
done_reclaims T fs old new repairs e told value left =
    let files = files_of (latest old.lives) fs in (
      subst (λ (a : Answer (ℕ → Repair)). Does T fs a (reclaimed_stages files) old new (Ok (repair_at repairs.each))) (sym (idle_answer old fs (reclaimed files) e)) (λ i n. (told n ∙ need_is (latest old.lives) fs n) i, value),
      left,
    )
