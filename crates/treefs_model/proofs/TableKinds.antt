-- The kinds of edits that change the table: an inode is attached, or inodes are dropped.
use Rattle.std.proofs.Common.{◌≡◌, ℕ, zero, suc, ◌<◌, ◌≤◌, None, refl, sym, ◌∙◌, ap, inl, inr, arith, subst}
use Rattle.std.specs.Prelude.{max}
use Rattle.std.proofs.lemmas.Bool.{cases_eq}
use Rattle.xn_model.specs.Types.{Types}
use Rattle.xn_model.specs.Lives.{Lives}
use Rattle.ffs_model.specs.Cuts.{Choice, IsCut, IsFullAt, latest, seen}
use Rattle.ffs_model.proofs.ForCallers.{everything, everything_seen, full_seen}
use Rattle.treefs_model.specs.Acts.{Act}
use Rattle.treefs_model.specs.Edited.{Edited, FullBehind, TakesIt}
use Rattle.treefs_model.specs.Links.{HasRoom, KeepsLinks, Layout, Spare, InodeAttached, InodeDropped, total}
use Rattle.treefs_model.proofs.Total.{total_le}

none_more : (n : ℕ) → total n (λ c. 0) ≡ 0
none_more zero = refl
none_more (suc n) = let rest = none_more n in omega arith

total_none : (n : ℕ) (f : ℕ → ℕ) → ((c : ℕ) → c < n → f c ≡ 0) → total n f ≡ 0
total_none n f h = let le = total_le n f (λ c. 0) (λ c lt. let z = h c lt in omega arith) in let z = none_more n in omega arith

term_le : (n c : ℕ) (f : ℕ → ℕ) → c < n → f c ≤ total n f
term_le zero c f lt = absurd (omega arith)
term_le (suc n) c f lt = elim (cases_eq c n) [
  | inl same ↦ let z = ap f same in omega arith
  | inr ne ↦ let z = term_le n c f (omega (arith, ne)) in omega arith
]

not_some : (n : ℕ) → (0 < n → ⊥) → n ≡ 0
not_some zero f = refl
not_some (suc n) f = absurd (f (omega arith))

module _ (T : Types) (L : Layout) (N : ℕ) (act : Act) (old new : Lives) (number : ℕ) (e : Edited T act old new number) (within : act.block < N) (n : ℕ)
    (same : L.records n act.block (latest new act.block) ≡ L.records n act.block (latest old act.block)) (v : KeepsLinks L N old n) where
  -- the records of n in a cut that takes it are as they were
  records_same : (k : Choice) → TakesIt act old new k → (c : ℕ) → L.records n c (seen new k c) ≡ L.records n c (seen old k c)
  records_same k t c = elim (cases_eq c act.block) [
    | inr ne ↦ ap (L.records n c) (t.others c ne)
    | inl q ↦
        ap (λ d. L.records n d (seen new k d)) q
        ∙ (ap (L.records n act.block) (full_seen new k act.block t.all)
        ∙ (same
        ∙ (ap (L.records n act.block) (sym (full_seen old k act.block t.full)) ∙ ap (λ d. L.records n d (seen old k d)) (sym q))))
  ]

  abbrev b : ℕ
  b = act.block

  -- An inode is attached
  module _ (i : ℕ) (h : InodeAttached L act old new n i) where
    -- no cut that takes it has a record of n
    none_seen : (k : Choice) → IsCut old k → TakesIt act old new k → (c : ℕ) → c < N → L.records n c (seen old k c) ≡ 0
    none_seen k cut t c few = not_some (L.records n c (seen old k c)) (λ some. v.named k c cut few some (h.free k cut t.full))

    none_latest : (c : ℕ) → c < N → L.records n c (latest new c) ≡ 0
    none_latest c few = elim (cases_eq c b) [
      | inr ne ↦ ap (L.records n c) (e.others c ne) ∙ was c few
      | inl q ↦ ap (λ d. L.records n d (latest new d)) q ∙ (same ∙ (ap (λ d. L.records n d (latest old d)) (sym q) ∙ was c few))
    ]
      where
        was : (c : ℕ) → c < N → L.records n c (latest old c) ≡ 0
        was c few = subst (λ w. L.records n c (w c) ≡ 0) (everything_seen old) (not_some (L.records n c (seen old (everything old) c))
            (λ some. v.named (everything old) c h.newest_cut few some (ap (λ w. L.leaf w n) (everything_seen old) ∙ h.was)))

    room : HasRoom L N new None 1 n
    room k cut led g = let z = e.cuts k cut in elim z.case [
      | inr l ↦ absurd (h.unattached k z.cut (ap (λ w. L.leaf w n) (sym l.same) ∙ (led.led.same ∙ h.now)))
      | inl t ↦
          let none = total_none N (λ c. max (L.records n c (seen new k c)) (L.records n c (latest new c)))
          (λ c few. let one = records_same k t c in let two = none_seen k z.cut t c few in let three = none_latest c few in omega arith) in
          let one = subst (λ j. 0 < L.links (latest new j)) (sym h.now) h.linked in
          omega arith
    ]

    pub inode_attached : KeepsLinks L N new n × Spare L N new b n
    inode_attached = (
      record {
        named = λ k c cut few some zero. let z = e.cuts k cut in elim z.case [
          | inr l ↦ v.named k c z.cut few (subst (λ w. 0 < L.records n c (w c)) l.same some) (ap (λ w. L.leaf w n) (sym l.same) ∙ zero)
          | inl t ↦ let one = records_same k t c in let two = none_seen k z.cut t c few in absurd (omega arith)
        ];
        good = λ k cut led. let z = e.cuts k cut in elim z.case [
          | inr l ↦ subst (λ w. total N (λ c. L.records n c (w c)) ≤ L.links (w (L.leaf w n))) (sym l.same) (v.good k z.cut (λ q. led (ap (λ w. L.leaf w n) l.same ∙ q)))
          | inl t ↦ let none = total_none N (λ c. L.records n c (seen new k c)) (λ c few. records_same k t c ∙ none_seen k z.cut t c few) in omega arith
        ];
        tight = λ k cut led g. let z = room k cut led g in omega arith;
      },
      record {
        room = room;
        led = λ k cut full. let z = e.cuts k cut in elim z.case [
          | inr l ↦ absurd (l.short full)
          | inl t ↦
              let at = h.leads k cut full in
              record {
                led = record { some = λ q. h.some (sym at ∙ q); same = at ∙ sym h.now };
                full = subst (IsFullAt new k) (sym h.now) (z.still i h.apart (subst (FullBehind old k) h.behind t.behind));
              }
        ];
      },
    )

  -- Inodes are dropped, n's among them
  module _ (h : InodeDropped L act old new n) where
    pub inode_dropped : KeepsLinks L N new n
    inode_dropped = record {
      named = λ k c cut few some zero. let z = e.cuts k cut in elim z.case [
        | inr l ↦ v.named k c z.cut few (subst (λ w. 0 < L.records n c (w c)) l.same some) (ap (λ w. L.leaf w n) (sym l.same) ∙ zero)
        | inl t ↦
            let most = v.tight k z.cut (record { led = h.was k z.cut t.full; full = t.drops (L.leaf (latest old) n) h.drops }) tt in
            let term = term_le N c (λ c. max (L.records n c (seen old k c)) (L.records n c (latest old c))) few in
            let one = records_same k t c in
            let none = h.unlinked in
            absurd (omega arith)
      ];
      good = λ k cut led. let z = e.cuts k cut in elim z.case [
        | inr l ↦ subst (λ w. total N (λ c. L.records n c (w c)) ≤ L.links (w (L.leaf w n))) (sym l.same) (v.good k z.cut (λ q. led (ap (λ w. L.leaf w n) l.same ∙ q)))
        | inl t ↦ absurd (led (h.gone k cut t.all))
      ];
      tight = λ k cut led g. absurd (led.led.some (led.led.same ∙ h.now));
    }
