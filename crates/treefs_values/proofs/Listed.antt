-- Names of a directory, and the live records of its buckets.
use Rattle.std.proofs.Common.{◌≡◌, ◌≢◌, ℕ, ◌≤◌, Bool, true, false, not, ◌&&◌, List, [], ◌∷◌, Option, None, Some, refl, sym, ◌∙◌, ap, inl, inr, subst, if◌then◌else◌}
use Rattle.std.specs.Prelude.{Contains, IsTrue, bytes_eq}
use Rattle.std.specs.Option.{option_or}
use Rattle.std.proofs.lemmas.Bool.{and_parts, not-true, or_left, or_right, true≢false}
use Rattle.std.proofs.lemmas.Option.{same_Some}
use Rattle.xn_model.proofs.ForCallers.{Contains-cons, Contains-head, Contains-none, Contains-tail}
use Rattle.treefs_format.specs.Paths.{leaf_count}
use Rattle.treefs_format.specs.Records.{Entry, is_live}
use Rattle.treefs_model.specs.Trees.{has_name, names_once}
use Rattle.treefs_values.specs.Names.{HasNamesOnce, bucket_entries, first_number, first_number_in}
use Rattle.treefs_values.proofs.Entries.{none_named, same_bytes, same_eq}
use Rattle.treefs_values.proofs.Numbers.{in_first, numbers_at, only_first}

-- an entry with a number, that is live
pub record IsLiveEntry (es : List Entry) (name : List ℕ) (n : ℕ) : Type 0 where
  pub entry : Entry
  pub there : Contains es entry
  pub live : is_live entry ≡ true
  pub named : entry.name ≡ name
  pub numbered : entry.number ≡ n

first_entry : (es : List Entry) (name : List ℕ) (n : ℕ) → first_number es name ≡ Some n → IsLiveEntry es name n
first_entry [] name n is = absurd (cc is)
first_entry (e ∷ es) name n is = by (is_live e && bytes_eq e.name name) refl is (first_entry es name n)
  where
    by : (b : Bool) → (is_live e && bytes_eq e.name name) ≡ b → (if is_live e && bytes_eq e.name name then Some e.number else first_number es name) ≡ Some n →
        (first_number es name ≡ Some n → IsLiveEntry es name n) → IsLiveEntry (e ∷ es) name n
    by true h is' rest =
        let parts = and_parts (is_live e) (bytes_eq e.name name) h in
        record {
          entry = e;
          there = Contains-head e es;
          live = parts.0;
          named = same_bytes e.name name parts.1;
          numbered = same_Some e.number n (sym (ap (λ b. if b then Some e.number else first_number es name) h) ∙ is');
        }
    by false h is' rest =
        let r = rest (sym (ap (λ b. if b then Some e.number else first_number es name) h) ∙ is') in
        record { entry = r.entry; there = Contains-tail e es r.entry r.there; live = r.live; named = r.named; numbered = r.numbered }

-- the number of a name stands in a live record
pub number_stands : (content : ℕ → List ℕ) (c : ℕ) (name buckets : List ℕ) (n : ℕ) → first_number_in content c name buckets ≡ Some n →
    (k : ℕ) × Contains buckets k × IsLiveEntry (bucket_entries content c k) name n
number_stands content c name [] n is = absurd (cc is)
number_stands content c name (k ∷ buckets) n is = by (first_number (bucket_entries content c k) name) refl is (number_stands content c name buckets n)
  where
    by : (o : Option ℕ) → first_number (bucket_entries content c k) name ≡ o → option_or o (first_number_in content c name buckets) ≡ Some n →
        (first_number_in content c name buckets ≡ Some n → (j : ℕ) × Contains buckets j × IsLiveEntry (bucket_entries content c j) name n) →
        (j : ℕ) × Contains (k ∷ buckets) j × IsLiveEntry (bucket_entries content c j) name n
    by (Some m) h is' rest = (k, Contains-head k buckets, first_entry (bucket_entries content c k) name n (h ∙ is'))
    by None h is' rest = let r = rest is' in (r.0, Contains-tail k buckets r.0 r.1, r.2)

pub has_of : (es : List Entry) (e : Entry) → Contains es e → IsTrue (has_name es e.name)
has_of [] e has = absurd (Contains-none e has)
has_of (x ∷ es) e has = elim (Contains-cons x es e has) [
  | inl same ↦ or_left (bytes_eq x.name e.name) (has_name es e.name) (same_eq x.name e.name (ap (λ (y : Entry). y.name) same))
  | inr later ↦ or_right (bytes_eq x.name e.name) (has_name es e.name) (has_of es e later)
]

own_number : (es : List Entry) (e : Entry) → IsTrue (names_once es) → Contains es e → is_live e ≡ true → first_number es e.name ≡ Some e.number
own_number [] e once has live = absurd (Contains-none e has)
own_number (x ∷ es) e once has live = elim (Contains-cons x es e has) [
  | inl same ↦
      subst (λ (y : Entry). (if is_live y && bytes_eq y.name e.name then Some y.number else first_number es e.name) ≡ Some e.number) (sym same)
      ((λ j. if live j && same_eq e.name e.name refl j then Some e.number else first_number es e.name))
  | inr later ↦ behind later (own_number es e (and_parts (not (has_name es x.name)) (names_once es) once).1 later live) (bytes_eq x.name e.name) refl
]
  where
    parts : (not (has_name es x.name) ≡ true) × (names_once es ≡ true)
    parts = and_parts (not (has_name es x.name)) (names_once es) once

    dead : (a : Bool) (y z : Option ℕ) → (if a && false then y else z) ≡ z
    dead true y z = refl
    dead false y z = refl

    behind : Contains es e → first_number es e.name ≡ Some e.number → (b : Bool) → bytes_eq x.name e.name ≡ b → (if is_live x && bytes_eq x.name e.name then Some x.number else first_number es e.name) ≡ Some e.number
    behind later rest true h =
        absurd (true≢false (sym (ap (has_name es) (same_bytes x.name e.name h) ∙ has_of es e later) ∙ not-true (has_name es x.name) parts.0))
    behind later rest false h =
        ap (λ b. if is_live x && b then Some x.number else first_number es e.name) h
        ∙ (dead (is_live x) (Some x.number) (first_number es e.name) ∙ rest)

-- where names have one record at most, a live record says the number of its name
pub live_leads : (content : ℕ → List ℕ) (c : ℕ) → HasNamesOnce content c → (k : ℕ) → k ≤ leaf_count → (e : Entry) → Contains (bucket_entries content c k) e →
    is_live e ≡ true → (buckets : List ℕ) → ((j : ℕ) → Contains buckets j → j ≤ leaf_count) → Contains buckets k → first_number_in content c e.name buckets ≡ Some e.number
live_leads content c names k few e has live buckets within there =
    in_first content c e.name buckets
    ∙ only_first (numbers_at content c e.name) k (Some e.number) buckets there (own_number (bucket_entries content c k) e (names.once k few) has live)
    (λ j j_there ne. none_named e.name (bucket_entries content c j) (lacks j (within j j_there) ne (has_name (bucket_entries content c j) e.name) refl))
  where
    lacks : (j : ℕ) → j ≤ leaf_count → j ≢ k → (b : Bool) → has_name (bucket_entries content c j) e.name ≡ b → has_name (bucket_entries content c j) e.name ≡ false
    lacks j j_few ne true h = absurd (ne (names.apart j k e.name j_few few h (has_of (bucket_entries content c k) e has)))
    lacks j j_few ne false h = h
