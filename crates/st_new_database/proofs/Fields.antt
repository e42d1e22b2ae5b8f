-- The fields of a page of a chain, and its form.
use Rattle.std.proofs.Common.{◌≡◌, ℕ, zero, suc, ◌-◌, ◌<◌, ◌≤◌, List, ◌∷◌, ◌++◌, length, get_or, replicate, refl, sym, subst, ◌∙◌, arith}
use Rattle.std.proofs.lemmas.List.{length-append, length-replicate}
use Rattle.std.specs.Int.{bytes_high_first}
use Rattle.st_image.specs.Bytes.{AreBlank, IsBytes}
use Rattle.st_image.specs.Fields.{kind_of, count_of, store_of, next_of, last_serial_of, body_of}
use Rattle.st_image.specs.Grammar.{Header, IsForm}
use Rattle.st_image.proofs.Numbers.{bytes-append, bytes-cons}
use Rattle.st_image.proofs.RowParts.{spelled, spelled-bytes}
use Rattle.st_image.proofs.Zeros.{bytes-zeros}
use Rattle.st_new_database.specs.New.{page_bytes}

-- what stands behind the fields
abbrev pub filled : List ℕ → List ℕ
filled piece = piece ++ replicate (4080 - length piece) 0

pub page-kind : (kind count next : ℕ) (piece : List ℕ) → kind_of (page_bytes kind count next piece) ≡ kind
unfolding page_bytes
page-kind kind count next piece = refl

pub page-spare : (kind count next : ℕ) (piece : List ℕ) → get_or (page_bytes kind count next piece) 1 0 ≡ 0
unfolding page_bytes
page-spare kind count next piece = refl

pub page-count : (kind count next : ℕ) (piece : List ℕ) → count < 65536 → count_of (page_bytes kind count next piece) ≡ count
unfolding page_bytes
page-count kind count next piece h = spelled 2 count h

pub page-store : (kind count next : ℕ) (piece : List ℕ) → store_of (page_bytes kind count next piece) ≡ 0
unfolding page_bytes
page-store kind count next piece = spelled 4 0 (omega arith)

pub page-next : (kind count next : ℕ) (piece : List ℕ) → next < 65536 → next_of (page_bytes kind count next piece) ≡ next
unfolding page_bytes
page-next kind count next piece h = spelled 4 next (omega arith)

pub page-last : (kind count next : ℕ) (piece : List ℕ) → last_serial_of (page_bytes kind count next piece) ≡ 0
unfolding page_bytes
page-last kind count next piece = spelled 4 0 (omega arith)

pub page-body : (kind count next : ℕ) (piece : List ℕ) → body_of (page_bytes kind count next piece) ≡ filled piece
unfolding page_bytes
page-body kind count next piece = refl

filled-size : (piece : List ℕ) → length piece ≤ 4080 → length (filled piece) ≡ 4080
filled-size piece h = omega (arith, length-append piece (replicate (4080 - length piece) 0), length-replicate {A = ℕ} (4080 - length piece) 0)

pub page-size : (kind count next : ℕ) (piece : List ℕ) → length piece ≤ 4080 → length (page_bytes kind count next piece) ≡ 4096
unfolding page_bytes
page-size kind count next piece h = omega (arith, filled-size piece h)

pub page-sound : (kind count next : ℕ) (piece : List ℕ) → kind < 256 → IsBytes piece → IsBytes (page_bytes kind count next piece)
unfolding page_bytes
page-sound kind count next piece h k =
    let body : List ℕ = filled piece in
    let behind : List ℕ = bytes_high_first 4 0 ++ body in
    let from-next : List ℕ = bytes_high_first 4 next ++ behind in
    let from-store : List ℕ = bytes_high_first 4 0 ++ from-next in
    let from-count : List ℕ = bytes_high_first 2 count ++ from-store in
    bytes-cons kind (0 ∷ from-count) h (bytes-cons 0 from-count (omega arith)
    (bytes-append (bytes_high_first 2 count) from-store (spelled-bytes 2 count)
    (bytes-append (bytes_high_first 4 0) from-next (spelled-bytes 4 0)
    (bytes-append (bytes_high_first 4 next) behind (spelled-bytes 4 next)
    (bytes-append (bytes_high_first 4 0) body (spelled-bytes 4 0)
    (bytes-append piece (replicate (4080 - length piece) 0) k (bytes-zeros (4080 - length piece))))))))

pub blank-filling : (n : ℕ) → AreBlank (replicate n 0)
blank-filling zero = refl
blank-filling (suc n) = blank-filling n

-- a page with a header and a body that its kind may have
pub page-form : (header : Header) (IsBody : ℕ → List ℕ → Type 0) (kind count next : ℕ) (piece : List ℕ) → header.kind ≡ kind → header.store ≡ 0 → header.next ≡ 65535 → kind < 256
    → header.least ≤ count → count ≤ header.most → count < 65536 → next < 65536 → length piece ≤ 4080 → IsBytes piece → IsBody count (filled piece)
    → IsForm header IsBody (page_bytes kind count next piece)
page-form header IsBody kind count next piece is_kind no_store last_page small least most few low short sound body = record {
  size = page-size kind count next piece short;
  bytes = page-sound kind count next piece small sound;
  has_header = record {
    kind = page-kind kind count next piece ∙ sym is_kind;
    spare = page-spare kind count next piece;
    least = omega (arith, page-count kind count next piece few);
    most = omega (arith, page-count kind count next piece few);
    store = page-store kind count next piece ∙ sym no_store;
    next = omega (arith, page-next kind count next piece low);
    last = omega (arith, page-last kind count next piece);
  };
  body = subst (λ (n : ℕ). IsBody n (body_of (page_bytes kind count next piece))) (sym (page-count kind count next piece few))
      (subst (λ (xs : List ℕ). IsBody count xs) (sym (page-body kind count next piece)) body);
}
