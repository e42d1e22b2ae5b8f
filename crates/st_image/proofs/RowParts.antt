-- The rows of a page, one behind the other.
use Rattle.std.proofs.Common.{◌≡◌, ℕ, zero, suc, ◌+◌, ◌-◌, ◌/◌, ◌^◌, ◌<◌, ◌≤◌, Bool, true, false, List, [], length, take, drop, replicate, refl, sym, ap, ◌∙◌, arith}
use Rattle.std.proofs.Math.Nat.{mod-eq_of_lt, mod-lt}
use Rattle.std.proofs.lemmas.List.{append-nil, length-replicate, take_all}
use Rattle.std.specs.Int.{byte_at, bytes_high_first}
use Rattle.byteorder.specs.Endian.{big_from}
use Rattle.byteorder.specs.Numbers.{big_from-bytes}
use Rattle.st_image.specs.Bytes.{IsBytes, number}
use Rattle.st_image.specs.Parts.{Field, Row, Rows, Tail, ceiling}
use Rattle.st_image.specs.Prefixes.{IsFirstWrong}
use Rattle.st_image.proofs.Numbers.{bytes-cons, bytes-none}
use Rattle.st_image.proofs.Read.{big-is}
use Rattle.st_image.proofs.Wrong.{Carries, Some, carries-on, seq-some, seq-wide, wrong-front}
use Rattle.st_image.proofs.Zeros.{bytes-zeros, number-zeros, zero-field}

-- ---- the bytes of a number

pub spelled-wide : (n x : ℕ) → length (bytes_high_first n x) ≡ n
spelled-wide zero x = refl
spelled-wide (suc n) x = omega (arith, spelled-wide n x)

byte-below : (n x : ℕ) → byte_at n x < 256
byte-below zero x = mod-lt x (omega arith)
byte-below (suc n) x = mod-lt (x / 256 ^ suc n) (omega arith)

pub spelled-bytes : (n x : ℕ) → IsBytes (bytes_high_first n x)
spelled-bytes zero x = bytes-none
spelled-bytes (suc n) x = bytes-cons (byte_at n x) (bytes_high_first n x) (byte-below n x) (spelled-bytes n x)

pub spelled : (n x : ℕ) → x < 256 ^ n → number (bytes_high_first n x) ≡ x
spelled n x h =
    let bytes : List ℕ = bytes_high_first n x in
    let wide : length bytes ≡ n = spelled-wide n x in
    sym (ap number (take_all n bytes (omega arith)))
    ∙ sym (big-is n bytes (omega arith))
    ∙ ap (big_from 0 n) (sym (append-nil bytes))
    ∙ big_from-bytes n x []
    ∙ mod-eq_of_lt h

-- ---- one row

pub field-some : (width low high : ℕ) → low ≤ high → low < 256 ^ width → Some (Field width low high)
field-some width low high h k = record {
  bytes = bytes_high_first width low;
  has = record {
    wide = spelled-wide width low;
    sound = spelled-bytes width low;
    least = omega (arith, spelled width low k);
    most = omega (arith, spelled width low k);
  };
}

pub tail-some : (child : Bool) (n : ℕ) → Some (Tail child n)
tail-some true n = record {
  bytes = replicate n 0;
  has = record { wide = length-replicate n 0; sound = bytes-zeros n; least = omega arith; most = omega (arith, number-zeros n) };
}
tail-some false n = record { bytes = replicate n 0; has = record { wide = length-replicate n 0; sound = bytes-zeros n } }

tail-wide : (child : Bool) (n : ℕ) (bytes : List ℕ) → Tail child n bytes → length bytes ≡ n
tail-wide true n bytes h = h.wide
tail-wide false n bytes h = h.wide

pub row-wide : (child : Bool) (key width low high : ℕ) (row : List ℕ) → key ≤ width → Row child key width low high row → length row ≡ width
row-wide child key width low high row within h =
    seq-wide key (width - key) row (h.front).wide (tail-wide child (width - key) (drop key row) h.rest) ∙ omega arith

pub row-some : (child : Bool) (key width low high : ℕ) → low ≤ high → low < 256 ^ key → Some (Row child key width low high)
row-some child key width low high h k =
    seq-some key (Field key low high) (λ _. Tail child (width - key)) (λ a f. f.wide) (field-some key low high h k) (λ a f. tail-some child (width - key))

-- ---- the rows

low-fits : (key left low : ℕ) (first : Bool) → low + suc left ≤ 256 ^ key → (first ≡ true → low ≡ 0) → low ≤ ceiling key first left
low-fits key left low true h k = omega (arith, k refl)
low-fits key left low false h k = omega arith

pub next-fits : (key left low n : ℕ) (first : Bool) → low + suc left ≤ 256 ^ key → n ≤ ceiling key first left → n + 1 + left ≤ 256 ^ key
next-fits key left low n true h k = omega arith
next-fits key left low n false h k = omega arith

pub rows-some : (child : Bool) (key width behind : ℕ) (first : Bool) (left low : ℕ) → key ≤ width → low + left ≤ 256 ^ key → (first ≡ true → low ≡ 0) → Some (Rows child key width behind first left low)
unfolding Rows
rows-some child key width behind first zero low within room zeros = record { bytes = replicate behind 0; has = zero-field behind (replicate behind 0) refl }
rows-some child key width behind first (suc left) low within room zeros =
    seq-some width (Row child key width low (ceiling key first left)) (λ row. Rows child key width behind false left (number (take key row) + 1))
    (λ a r. row-wide child key width low (ceiling key first left) a within r)
    (row-some child key width low (ceiling key first left) (low-fits key left low first room zeros) (omega arith))
    (λ a r. rows-some child key width behind false left (number (take key a) + 1) within (next-fits key left low (number (take key a)) first room (r.front).most) (λ e. absurd (off e)))
  where
    off : false ≡ true → ⊥
    off e = cc

-- the first row is left
pub rows-wrong : (child : Bool) (key width behind : ℕ) (first : Bool) (left low : ℕ) (bytes : List ℕ) (place : ℕ) → key ≤ width → low + suc left ≤ 256 ^ key → place < width
    → IsFirstWrong (Row child key width low (ceiling key first left)) (take width bytes) place → IsFirstWrong (Rows child key width behind first (suc left) low) bytes place
unfolding Rows
rows-wrong child key width behind first left low bytes place within room inside h =
    wrong-front width (Row child key width low (ceiling key first left)) (λ row. Rows child key width behind false left (number (take key row) + 1)) bytes place
    (λ a r. row-wide child key width low (ceiling key first left) a within r)
    (λ a r. rows-some child key width behind false left (number (take key a) + 1) within (next-fits key left low (number (take key a)) first room (r.front).most) (λ e. absurd (off e)))
    inside h
  where
    off : false ≡ true → ⊥
    off e = cc

-- the first row holds
pub rows-on : (child : Bool) (key width behind : ℕ) (first : Bool) (left low : ℕ) (Whole : List ℕ → Type 0) (bytes : List ℕ) (at : ℕ) → at + width ≤ length bytes
    → Carries Whole bytes at (Rows child key width behind first (suc left) low) → Row child key width low (ceiling key first left) (take width (drop at bytes))
    → Carries Whole bytes (at + width) (Rows child key width behind false left (number (take key (take width (drop at bytes))) + 1))
unfolding Rows
rows-on child key width behind first left low Whole bytes at within known h =
    carries-on Whole bytes at width (Row child key width low (ceiling key first left)) (λ row. Rows child key width behind false left (number (take key row) + 1)) within known h

-- no row is left
pub rows-end : (child : Bool) (key width behind : ℕ) (first : Bool) (low : ℕ) (bytes : List ℕ) → Field behind 0 0 bytes → Rows child key width behind first 0 low bytes
unfolding Rows
rows-end child key width behind first low bytes h = h

pub rows-end-wrong : (child : Bool) (key width behind : ℕ) (first : Bool) (low : ℕ) (bytes : List ℕ) (place : ℕ) → IsFirstWrong (Field behind 0 0) bytes place → IsFirstWrong (Rows child key width behind first 0 low) bytes place
unfolding Rows
rows-end-wrong child key width behind first low bytes place h = h

pub rows-any : (child : Bool) (key width behind : ℕ) (first other : Bool) (low high : ℕ) (Whole : List ℕ → Type 0) (bytes : List ℕ) (at : ℕ) → Carries Whole bytes at (Rows child key width behind first 0 low) → Carries Whole bytes at (Rows child key width behind other 0 high)
unfolding Rows
rows-any child key width behind first other low high Whole bytes at h = record { wrong = h.wrong; right = h.right }
