-- Where the slashes at the end of a path begin, and where its last slash stands.
use Rattle.std.proofs.Common.{◌≡◌, ◌≢◌, ◌∙◌, ◌+◌, ◌-◌, ◌<◌, ◌≤◌, ℕ, not, List, [], ◌∷◌, ◌++◌, Option, None, Some, length, get_or, take, drop, ap, arith, eq-eqb, ne_eqb, subst, sym, ⊎_elim}
use Rattle.std.proofs.Common.{get_or-drop, length-take}
use Rattle.std.proofs.lemmas.Bool.{cases_eq}
use Rattle.std.proofs.lemmas.List.{get_or-take, take_all, take_more}
use Rattle.std.proofs.lemmas.List.Sums.{suffix_len_is}
use Rattle.std.proofs.lemmas.Str.{encode_ascii}
use Rattle.std.proofs.lemmas.Str.Pattern.{NoCharPasses-char}
use Rattle.std.specs.List.{suffix_len}
use Rattle.std.specs.Option.{IfSome}
use Rattle.std.specs.Str.Pattern.{CutsSuffixes, FindsCharSuffix, IsTrimEndMatches, RFindsChar}
use Rattle.host_trees.specs.Naming.{is_slash, last_part, without_slashes}

-- what was cut off are slashes
slashes_cut : (path : List ℕ) (widths : List ℕ) (rest : List ℕ) → CutsSuffixes (FindsCharSuffix 47) path widths rest →
    (length rest ≤ length path) × ((k : ℕ) → k < length rest → get_or rest k 0 ≡ get_or path k 0)
    × ((k : ℕ) → length rest ≤ k → k < length path → get_or path k 0 ≡ 47)
slashes_cut path [] rest cuts = (
  omega (arith, ap length cuts),
  λ k within. ap (λ (l : List ℕ). get_or l k 0) cuts,
  λ k behind within. absurd (omega (arith, ap length cuts)),
)
slashes_cut path (width ∷ widths) rest cuts =
    let m = cuts.0 in
    let before = slashes_cut path widths m cuts.1 in
    let one : width ≡ 1 = cuts.2.0 in
    let ends : length m ≡ (length m - width) + 1 = cuts.2.1.ends in
    let short : length rest ≡ length m - width = ap length cuts.3 ∙ omega (arith, length-take (length m - width) m) in
    let here : get_or m (length m - width) 0 ≡ 47 = cuts.2.1.byte (omega arith) in
    let fewer = before.0 in (
      omega arith,
      λ k within. ap (λ (l : List ℕ). get_or l k 0) cuts.3 ∙ (get_or-take (length m - width) m k 0 (omega arith) ∙ before.1 k (omega arith)),
      λ k behind within. ⊎_elim
          (λ (is : k ≡ length m - width). sym (before.1 k (omega arith)) ∙ (ap (λ (n : ℕ). get_or m n 0) is ∙ here))
          (λ (not_is : k ≢ length m - width). before.2 k (omega arith) within) (cases_eq k (length m - width)),
    )

-- nor does a slash stand at the end of what is left
last_stays : (rest : List ℕ) (found : Option ℕ) → FindsCharSuffix 47 rest found → IfSome found (λ n. n ≡ 0) → 0 < length rest →
    get_or rest (length rest - 1) 0 ≢ 47
last_stays rest None none is some slash =
    let whole : rest ≡ take (length rest - 1) rest ++ get_or rest (length rest - 1) 0 ∷ [] =
    sym (take_all ((length rest - 1) + 1) rest (omega arith)) ∙ take_more rest (length rest - 1) 0 (omega arith) in
    none (take (length rest - 1) rest) (whole ∙ (ap (λ (b : ℕ). take (length rest - 1) rest ++ b ∷ []) slash
    ∙ ap (λ (l : List ℕ). take (length rest - 1) rest ++ l) (sym (encode_ascii 47 (omega arith)))))
last_stays rest (Some width) found is some slash = let one : width ≡ 1 = found.0 in absurd (omega (arith, is))

pub trimmed_is : (path rest : List ℕ) → rest ≡ take (length rest) path → IsTrimEndMatches (FindsCharSuffix 47) path rest → rest ≡ without_slashes path
trimmed_is path rest front trim =
    let cut = slashes_cut path trim.0.0 rest trim.0.1 in
    let within = cut.0 in
    let behind : suffix_len is_slash path ≡ length path - length rest = suffix_len_is is_slash path (length rest) 0 within
    (λ k ge lt. eq-eqb (get_or path k 0) 47 (cut.2 k ge lt))
    (λ some. ne_eqb (get_or path (length rest - 1) 0) 47
    (λ is. last_stays rest trim.1.0 trim.1.1 trim.1.2 some (cut.1 (length rest - 1) (omega arith) ∙ is))) in
    let left : length rest ≡ length path - suffix_len is_slash path = omega arith in
    front ∙ ap (λ (n : ℕ). take n path) left

-- behind a slash that none follows
behind_last : (path : List ℕ) (at : ℕ) → at ≤ length path → ((k : ℕ) → at ≤ k → k < length path → get_or path k 0 ≢ 47) →
    (0 < at → get_or path (at - 1) 0 ≡ 47) → drop at path ≡ last_part path
behind_last path at within others here =
    let behind : suffix_len (λ x. not (is_slash x)) path ≡ length path - at = suffix_len_is (λ x. not (is_slash x)) path at 0 within
    (λ k ge lt. ap not (ne_eqb (get_or path k 0) 47 (others k ge lt)))
    (λ some. ap not (eq-eqb (get_or path (at - 1) 0) 47 (here some))) in
    let left : at ≡ length path - suffix_len (λ x. not (is_slash x)) path = omega arith in
    ap (λ (n : ℕ). drop n path) left

pub part_behind : (path name : List ℕ) (i j : ℕ) → RFindsChar 47 path (Some (i, j)) → name ≡ drop j path → length name + j ≡ length path →
    name ≡ last_part path
part_behind path name i j found is count =
    let ends : j ≡ i + 1 = found.1.ends in
    let here : get_or path i 0 ≡ 47 = found.1.byte (omega arith) in
    is ∙ behind_last path j (omega arith)
    (λ k ge lt. subst (λ (n : ℕ). get_or path n 0 ≢ 47) (omega arith)
    (subst (λ (b : ℕ). b ≢ 47) (get_or-drop j path (k - j) 0)
    (NoCharPasses-char 47 (drop j path) (k - j) found.0 (omega arith) (omega (arith, ap length is)))))
    (λ some. ap (λ (n : ℕ). get_or path n 0) (omega arith) ∙ here)

pub part_whole : (path : List ℕ) → RFindsChar 47 path None → path ≡ last_part path
part_whole path none = behind_last path 0 (omega arith) (λ k ge lt. NoCharPasses-char 47 path k none (omega arith) lt) (λ some. absurd (omega arith))
