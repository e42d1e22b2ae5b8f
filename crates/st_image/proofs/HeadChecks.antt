-- What the checks of a page's front find.
use Rattle.std.proofs.Common.{◌≡◌, ℕ, ◌+◌, ◌-◌, ◌*◌, ◌^◌, ◌<◌, ◌≤◌, List, length, take, drop, subst, arith}
use Rattle.std.proofs.lemmas.List.{length-drop, length-take-le, take_rest}
use Rattle.st_image.specs.Parts.{Field, IsHead, Seq}
use Rattle.st_image.specs.Prefixes.{IsFirstWrong}
use Rattle.st_image.proofs.RowParts.{field-some}
use Rattle.st_image.proofs.Wrong.{Carries, Some, carries-all, carries-on, seq-some, wrong-front}

-- what is behind the front's parts
abbrev pub Behind : ℕ → ℕ → ℕ → (List ℕ → Type 0) → List ℕ → Type 0
Behind width low high Next = Seq width (Field width low high) (λ _. Next)

abbrev pub FromNext : ℕ → ℕ → List ℕ → Type 0
FromNext next last = Behind 4 0 next (Field 4 0 last)

abbrev pub FromStore : ℕ → ℕ → ℕ → List ℕ → Type 0
FromStore store next last = Behind 4 store store (FromNext next last)

abbrev pub FromCount : ℕ → ℕ → ℕ → ℕ → ℕ → List ℕ → Type 0
FromCount least most store next last = Behind 2 least most (FromStore store next last)

behind-some : (width low high : ℕ) (Next : List ℕ → Type 0) → low ≤ high → low < 256 ^ width → Some Next → Some (Behind width low high Next)
behind-some width low high Next h k next = seq-some width (Field width low high) (λ _. Next) (λ a f. f.wide) (field-some width low high h k) (λ a f. next)

pub some-last : (last : ℕ) → Some (Field 4 0 last)
some-last last = field-some 4 0 last (omega arith) (omega arith)

pub some-next : (next last : ℕ) → Some (FromNext next last)
some-next next last = behind-some 4 0 next (Field 4 0 last) (omega arith) (omega arith) (some-last last)

pub some-store : (store next last : ℕ) → store < 2 ^ 32 → Some (FromStore store next last)
some-store store next last h = behind-some 4 store store (FromNext next last) (omega arith) (omega arith) (some-next next last)

pub some-count : (least most store next last : ℕ) → store < 2 ^ 32 → least ≤ most → most < 2 ^ 16 → Some (FromCount least most store next last)
some-count least most store next last h k l = behind-some 2 least most (FromStore store next last) k (omega arith) (some-store store next last h)

pub some-head : (kind least most store next last : ℕ) → kind < 256 → store < 2 ^ 32 → least ≤ most → most < 2 ^ 16 → Some (IsHead kind least most store next last)
some-head kind least most store next last f h k l =
    behind-some 2 (kind * 256) (kind * 256) (FromCount least most store next last) (omega arith) (omega arith) (some-count least most store next last h k l)

-- a part is left
pub part-wrong : (Whole : List ℕ → Type 0) (bytes : List ℕ) (at width low high : ℕ) (Next : List ℕ → Type 0) (place : ℕ) → Carries Whole bytes at (Behind width low high Next) → at + width ≤ length bytes → Some Next
    → (place < length (take width (drop at bytes))) × IsFirstWrong (Field width low high) (take width (drop at bytes)) place
    → (at + place < length bytes) × IsFirstWrong Whole bytes (at + place)
part-wrong Whole bytes at width low high Next place known room next h =
    let wide : length (take width (drop at bytes)) ≡ width = length-take-le width (drop at bytes) (omega (arith, length-drop at bytes)) in
    let inside : place < width = omega (arith, h.0, wide) in
    (omega arith, known.wrong place (wrong-front width (Field width low high) (λ _. Next) (drop at bytes) place (λ a f. f.wide) (λ a f. next) inside h.1))

-- a part holds
pub part-on : (Whole : List ℕ → Type 0) (bytes : List ℕ) (at width low high : ℕ) (Next : List ℕ → Type 0) → Carries Whole bytes at (Behind width low high Next) → at + width ≤ length bytes
    → Field width low high (take width (drop at bytes)) → Carries Whole bytes (at + width) Next
part-on Whole bytes at width low high Next known room h = carries-on Whole bytes at width (Field width low high) (λ _. Next) room known h

pub kind-on : (kind least most store next last k : ℕ) (bytes : List ℕ) → k ≡ kind → length bytes ≡ 16 → Field 2 (k * 256) (k * 256) (take 2 bytes)
    → Carries (IsHead kind least most store next last) bytes 2 (FromCount least most store next last)
kind-on kind least most store next last k bytes e wide h =
    part-on (IsHead kind least most store next last) bytes 0 2 (kind * 256) (kind * 256) (FromCount least most store next last) (carries-all (IsHead kind least most store next last) bytes) (omega arith)
    (subst (λ (n : ℕ). Field 2 (n * 256) (n * 256) (take 2 bytes)) e h)

pub kind-wrong : (kind least most store next last k : ℕ) (bytes : List ℕ) (place : ℕ) → k ≡ kind → length bytes ≡ 16 → Some (FromCount least most store next last)
    → (place < length (take 2 bytes)) × IsFirstWrong (Field 2 (k * 256) (k * 256)) (take 2 bytes) place
    → (place < length bytes) × IsFirstWrong (IsHead kind least most store next last) bytes place
kind-wrong kind least most store next last k bytes place e wide some h =
    let wide-two : length (take 2 bytes) ≡ 2 = length-take-le 2 bytes (omega arith) in
    let inside : place < 2 = omega (arith, h.0, wide-two) in (
      omega arith,
      wrong-front 2 (Field 2 (kind * 256) (kind * 256)) (λ _. FromCount least most store next last) bytes place (λ a f. f.wide) (λ a f. some) inside
          (subst (λ (n : ℕ). IsFirstWrong (Field 2 (n * 256) (n * 256)) (take 2 bytes) place) e h.1),
    )

pub last-wrong : (Whole : List ℕ → Type 0) (bytes : List ℕ) (at last : ℕ) (place : ℕ) → Carries Whole bytes at (Field 4 0 last)
    → (place < length (take (length bytes - at) (drop at bytes))) × IsFirstWrong (Field 4 0 last) (take (length bytes - at) (drop at bytes)) place
    → (at + place < length bytes) × IsFirstWrong Whole bytes (at + place)
last-wrong Whole bytes at last place known h =
    let rest = take_rest bytes at in
    let inside : place < length (drop at bytes) = subst (λ (xs : List ℕ). place < length xs) rest h.0 in
    (omega (arith, inside, length-drop at bytes), known.wrong place (subst (λ (xs : List ℕ). IsFirstWrong (Field 4 0 last) xs place) rest h.1))

pub last-right : (Whole : List ℕ → Type 0) (bytes : List ℕ) (at last : ℕ) → Carries Whole bytes at (Field 4 0 last) → Field 4 0 last (take (length bytes - at) (drop at bytes)) → Whole bytes
last-right Whole bytes at last known h = known.right (subst (Field 4 0 last) (take_rest bytes at) h)
