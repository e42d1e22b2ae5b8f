-- The pages' fields, and their grammar.
use Rattle.std.proofs.Common.{◌≡◌, ℕ, List, [], ◌∷◌, ◌++◌, replicate, refl, sym, subst, arith}
use Rattle.st_image.specs.Fields.{count_of, next_of, last_serial_of, body_of, rows_of}
use Rattle.st_image.specs.Grammar.{HasHeader, rows_header, AreRows, IsForm}
use Rattle.st_standing_example.specs.Ada.{ada_row, extent_page, head, roots_page, schema_page, tiny_root, tiny_bytes}
use Rattle.st_standing_example.proofs.Filled.{filled-is, filled-size, filled-sound, zeros-blank}

-- each page as its bytes and so many zeros
roots-is : (n : ℕ) × (roots_page ≡ head 5 1 0 ++ tiny_root ++ replicate n 0)
unfolding roots_page
roots-is = filled-is (head 5 1 0 ++ tiny_root)

schema-is : (n : ℕ) × (schema_page ≡ head 1 99 0 ++ tiny_bytes ++ replicate n 0)
unfolding schema_page
schema-is = filled-is (head 1 99 0 ++ tiny_bytes)

extent-is : (n : ℕ) × (extent_page ≡ head 2 1 1 ++ ada_row ++ replicate n 0)
unfolding extent_page
extent-is = filled-is (head 2 1 1 ++ ada_row)

-- the fields of the first two pages
pub roots-next : next_of roots_page ≡ 0
roots-next = subst (λ (page : List ℕ). next_of page ≡ 0) (sym roots-is.1) refl

pub roots-count : count_of roots_page ≡ 1
roots-count = subst (λ (page : List ℕ). count_of page ≡ 1) (sym roots-is.1) refl

pub schema-next : next_of schema_page ≡ 0
schema-next = subst (λ (page : List ℕ). next_of page ≡ 0) (sym schema-is.1) refl

pub schema-count : count_of schema_page ≡ 99
schema-count = subst (λ (page : List ℕ). count_of page ≡ 99) (sym schema-is.1) refl

-- those of the third
pub extent-next : next_of extent_page ≡ 0
extent-next = subst (λ (page : List ℕ). next_of page ≡ 0) (sym extent-is.1) refl

pub extent-last : last_serial_of extent_page ≡ 1
extent-last = subst (λ (page : List ℕ). last_serial_of page ≡ 1) (sym extent-is.1) refl

pub extent-rows : rows_of 95 extent_page ≡ ada_row ∷ []
extent-rows = subst (λ (page : List ℕ). rows_of 95 page ≡ ada_row ∷ []) (sym extent-is.1) refl

extent-header : HasHeader (rows_header 2 0 95) extent_page
extent-header = subst (HasHeader (rows_header 2 0 95)) (sym extent-is.1) (record {
  kind = refl;
  spare = refl;
  least = omega arith;
  most = omega arith;
  store = refl;
  next = omega arith;
  last = omega arith;
})

extent-body : AreRows 4 95 (count_of extent_page) (body_of extent_page)
extent-body = subst (λ (page : List ℕ). AreRows 4 95 (count_of page) (body_of page)) (sym extent-is.1) (record { ascend = refl; behind = zeros-blank extent-is.0 })

pub extent-form : IsForm (rows_header 2 0 95) (AreRows 4 95) extent_page
unfolding extent_page
extent-form = record {
  size = filled-size (head 2 1 1 ++ ada_row) (omega arith);
  bytes = filled-sound (head 2 1 1 ++ ada_row) refl;
  has_header = extent-header;
  body = extent-body;
}
