-- What a table of texts finds after one more was put into it.
use Rattle.std.proofs.Common.{◌≡◌, ℕ, Bool, true, false, cond, List, [], ◌∷◌, Option, Some, refl, sym, ap, arith, Vec, Global, ◌∙◌, true≢false}
use Rattle.std.specs.Prelude.{if◌then◌else◌}
use Rattle.std.proofs.lemmas.Bool.{false_from_ne_true}
use Rattle.std.specs.Str.{bytes_eq}
use Rattle.std.specs.Map.{lookup}
use Rattle.std.specs.Ordering.{nat_cmp, is_eq, match_ordering}
use Rattle.std.specs.declared.cmp.Ordering.{Ordering}
use Rattle.std.specs.declared.cmp.Ordering.TheVariants.{Less, Equal, Greater}
use Rattle.std.specs.Cmp.Lexicographic.{slice_cmp}
use Rattle.std.specs.BTreeMap.{is_at, insert_entry}
use Rattle.std.proofs.lemmas.Map.Lookups.{exact_bytes}
use Rattle.std.proofs.lemmas.Map.Text.{is_eq-slice_cmp}
use Rattle.std.proofs.lemmas.Slice.Eq.{bytes_eq-Decides}

-- a key
abbrev Key : Type 0
Key = Vec ℕ Global

abbrev key_cmp : Key → Key → Ordering
key_cmp a b = slice_cmp nat_cmp a.items b.items

-- the entry of a text
abbrev entry_of : {X : Type 0} → List ℕ → List (Key × X) → Option X
entry_of text entries = lookup (is_at (λ (key : Key). slice_cmp nat_cmp text key.items)) entries

same_or : {X : Type 0} (a b : Bool) (x y : Option X) (rest : Option X) → (a ≡ true → b ≡ false) → cond a x (cond b y rest) ≡ cond b y (cond a x rest)
same_or true true x y rest apart = let e : true ≡ false = apart refl in grind (arith, e)
same_or true false x y rest apart = refl
same_or false b x y rest apart = refl

twice : {X : Type 0} (b : Bool) (x y rest : X) → cond b x rest ≡ cond b x (cond b y rest)
twice true x y rest = refl
twice false x y rest = refl

-- texts that differ are not both this one
apart : (text key other : List ℕ) → slice_cmp nat_cmp key other ≡ Greater → bytes_eq text other ≡ true → bytes_eq text key ≡ false
apart text key other p is = false_from_ne_true _ (λ same.
    let e : key ≡ other = sym ((bytes_eq-Decides text key).0 same) ∙ (bytes_eq-Decides text other).0 is in
    let yes : is_eq (slice_cmp nat_cmp key other) ≡ true = is_eq-slice_cmp key other ∙ (bytes_eq-Decides key other).1 e in
    let no : is_eq (slice_cmp nat_cmp key other) ≡ false = ap is_eq p in
    true≢false (sym yes ∙ no))

at_key : (text : List ℕ) (key : Key) → is_at (λ (k : Key). slice_cmp nat_cmp text k.items) key ≡ bytes_eq text key.items
at_key text key = is_eq-slice_cmp text key.items

pub put_found : {X : Type 0} (entries : List (Key × X)) (key : Key) (x : X) (text : List ℕ) →
    entry_of text (insert_entry key_cmp entries key x) ≡ (if bytes_eq text key.items then Some x else entry_of text entries)
put_found [] key x text = rw (at_key text key) refl
put_found (e ∷ entries) key x text = placed (key_cmp key (e.0)) refl (put_found entries key x text)
  where
    placed : (o : Ordering) → key_cmp key (e.0) ≡ o →
        entry_of text (insert_entry key_cmp entries key x) ≡ (if bytes_eq text key.items then Some x else entry_of text entries) →
        entry_of text (match_ordering o ((key, x) ∷ e ∷ entries) ((e.0, x) ∷ entries) (e ∷ insert_entry key_cmp entries key x))
        ≡ (if bytes_eq text key.items then Some x else entry_of text (e ∷ entries))
    placed Less p behind = rw (at_key text key) refl
    placed Equal p behind = rw (at_key text (e.0), exact_bytes key.items (e.0.items) p) (twice (bytes_eq text (e.0.items)) (Some x) (Some (e.1)) (entry_of text entries))
    placed Greater p behind = rw (at_key text (e.0), behind)
        (same_or (bytes_eq text (e.0.items)) (bytes_eq text key.items) (Some (e.1)) (Some x) (entry_of text entries) (apart text key.items (e.0.items) p))
