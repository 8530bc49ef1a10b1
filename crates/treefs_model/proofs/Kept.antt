-- What is led to stays so, over an edit that makes a record, and over one that ends one.
use Rattle.std.proofs.Common.{◌≡◌, ℕ, ◌⊎◌, List, inl, inr, sym, subst}
use Rattle.std.specs.Prelude.{◌≢◌}
use Rattle.xn_model.specs.Types.{Types}
use Rattle.xn_model.specs.Lives.{Lives}
use Rattle.ffs_model.specs.Cuts.{Choice, IsCut, IsFullAt, latest, seen}
use Rattle.treefs_model.specs.Acts.{Act}
use Rattle.treefs_model.specs.Edited.{Edited, TakesIt}
use Rattle.treefs_model.specs.Led.{Ends, HasParents, IsApart, IsWithin, Led, Makes, StaysLed, below, root, step, top}

led_more : (E F : ℕ → ℕ → Type 0) → ((c x : ℕ) → E c x → F c x) → (n : ℕ) → Led E n → Led F n
led_more E F f n top = top
led_more E F f n (step {d = d} up e) = step (led_more E F f d up) (f d n e)

module _ (T : Types) (E : (ℕ → List ℕ) → ℕ → ℕ → Type 0) (Same : Lives → Choice → ℕ → Type 0) (act : Act) (old new : Lives) (number : ℕ) (e : Edited T act old new number)
    (within : (k j : Choice) → IsWithin new k j → IsWithin old k j × (IsFullAt new k act.block → IsFullAt new j act.block)) where
  module _ (d n : ℕ) (h : Makes E Same act old new d n) (v : StaysLed E Same old) where
    more_led : (k : Choice) (x : ℕ) → IsCut new k → Led (E (seen old k)) x → Led (E (seen new k)) x
    more_led k x cut up = led_more (E (seen old k)) (E (seen new k)) (λ c y. h.more k c y cut) x up

    -- a cut that takes it leads to what it led to without it, or through d to n
    without : (k : Choice) (x : ℕ) → IsCut new k → TakesIt act old new k → Led (E (seen new k)) x → Led (E (seen old k)) x ⊎ ((x ≡ n) × Led (E (seen old k)) d)
    without k x cut t top = inl top
    without k x cut t (step {d = c} up edge) = elim (without k c cut t up) [
      | inl was ↦ elim (h.only k c x cut t edge) [ inl y ↦ inl (step was y) | inr y ↦ inr (y.1, subst (Led (E (seen old k))) y.0 was) ]
      | inr new' ↦ elim h.below [
        | inl none ↦ absurd (none k x cut t (subst (λ z. E (seen new k) z x) new'.0 edge))
        | inr led ↦
            let at : Led (E (seen old k)) c = subst (Led (E (seen old k))) (sym new'.0) (led k cut t new'.1) in
            elim (h.only k c x cut t edge) [ inl y ↦ inl (step at y) | inr y ↦ inr (y.1, new'.1) ]
      ]
    ]

    pub made_stays : StaysLed E Same new
    made_stays k j x cut cut' w same-x up now =
        let z = e.cuts k cut in
        let z' = e.cuts j cut' in
        let w' = (within k j w).0 in
        let old_led : Led (E (seen old k)) x → Led (E (seen new j)) x = λ was. elim (h.newest x now) [
          | inl there ↦ more_led j x cut' (v k j x z.cut z'.cut w' (h.same k x cut same-x) was there)
          | inr same ↦ elim h.fresh [
            | inl there ↦ more_led j x cut' (v k j x z.cut z'.cut w' (h.same k x cut same-x) was (subst (Led (E (latest old))) (sym same) there))
            | inr none ↦ absurd (none k z.cut (subst (Led (E (seen old k))) same was))
          ]
        ] in
        elim z.case [
          | inr l ↦ old_led (subst (λ v. Led (E v) x) l.same up)
          | inl t ↦ elim (without k x cut t up) [
            | inl was ↦ old_led was
            | inr new' ↦
                let too : TakesIt act old new j = elim z'.case [ inl t' ↦ t' | inr l ↦ absurd (l.short ((within k j w).1 t.all)) ] in
                subst (Led (E (seen new j))) (sym new'.0) (step (more_led j d cut' (v k j d z.cut z'.cut w' (h.same_d k cut t) new'.1 h.known)) (h.made j cut' too))
          ]
        ]

  module _ (d n : ℕ) (h : Ends E Same act old new d n) (v : StaysLed E Same old) where
    -- a cut that takes the end leads to what it led to without it
    end_led : (k : Choice) (x : ℕ) → IsCut new k → TakesIt act old new k → Led (E (seen old k)) x → Led (E (seen new k)) x
    end_led k x cut t top = top
    end_led k x cut t (step {d = c} up edge) =
        let above = end_led k c cut t up in
        elim (h.only k c x cut t edge) [
          | inl y ↦ step above y
          | inr y ↦ subst (Led (E (seen new k))) (sym y.1) (h.still k cut t (subst (Led (E (seen new k))) y.0 above))
        ]

    pub end_stays : StaysLed E Same new
    end_stays k j x cut cut' w same-x up now =
        let z = e.cuts k cut in
        let z' = e.cuts j cut' in
        let was = v k j x z.cut z'.cut (within k j w).0 (h.same k x cut same-x) (led_more (E (seen new k)) (E (seen old k)) (λ c y. h.fewer k c y cut) x up) (h.newest x now) in
        elim z'.case [ inl t ↦ end_led j x cut' t was | inr l ↦ subst (λ u. Led (E u) x) (sym l.same) was ]

-- A directory whose parents do not lead to n is led to without the edges to n
apart_ne : (parent : ℕ → ℕ) (n c : ℕ) → IsApart parent n c → c ≢ n
apart_ne parent n c (root some) = λ e. some (sym e)
apart_ne parent n c (below ne more) = ne

apart_up : (parent : ℕ → ℕ) (n c : ℕ) → parent 1 ≡ 1 → IsApart parent n c → IsApart parent n (parent c)
apart_up parent n c one (root some) = subst (IsApart parent n) (sym one) (root some)
apart_up parent n c one (below ne more) = more

pub led_apart : (E F : ℕ → ℕ → Type 0) (parent : ℕ → ℕ) (n : ℕ) → HasParents E parent n → ((d c : ℕ) → E d c → c ≢ n → F d c) → (c : ℕ) → Led E c → IsApart parent n c → Led F c
led_apart E F parent n h keeps c top apart = top
led_apart E F parent n h keeps c (step {d = d} up edge) apart =
    let ne = apart_ne parent n c apart in
    step (led_apart E F parent n h keeps d up (subst (IsApart parent n) (sym (h.one d c edge ne)) (apart_up parent n c h.top apart))) (keeps d c edge ne)
