-- Rows as the grammar of pages has them, and part by part.
use Rattle.std.proofs.Common.{◌≡◌, ℕ, zero, suc, ◌+◌, ◌-◌, ◌*◌, ◌^◌, ◌<◌, ◌≤◌, Bool, true, false, List, length, take, drop, refl, sym, ap, subst, ◌∙◌, arith}
use Rattle.std.proofs.Math.Nat.{suc-mul}
use Rattle.std.proofs.lemmas.List.{drop-drop, length-drop, length-take-le, take-append-drop, take-take}
use Rattle.std.proofs.lemmas.List.Elements.{All-cons, All-head, All-tail}
use Rattle.std.specs.List.{All}
use Rattle.st_image.specs.Bytes.{AreBlank, IsBytes, number}
use Rattle.st_image.specs.Fields.{pieces}
use Rattle.st_image.specs.Parts.{Row, Rows, Tail, ceiling}
use Rattle.st_image.proofs.Numbers.{bytes-append, bytes-drop, bytes-take, number-lt}
use Rattle.st_image.proofs.Ordered.{AllKeys, HasKey, Ordered, ordered-room}
use Rattle.st_image.proofs.RowParts.{row-wide}
use Rattle.st_image.proofs.Wrong.{seq-wide}
use Rattle.st_image.proofs.Zeros.{blank-number, number-blank}

-- the rows of a body, part by part
pub record Laid (child : Bool) (key width behind : ℕ) (first : Bool) (left low : ℕ) (body : List ℕ) : Type 0 where
  pub size : length body ≡ left * width + behind
  pub sound : IsBytes body
  pub order : Ordered key low (pieces left width body)
  pub pages : child ≡ true → All (λ (row : List ℕ). number (drop key row) < 65536) (pieces left width body)
  pub first_key : first ≡ true → 1 ≤ left → number (take key body) ≡ 0
  pub rest : AreBlank (drop (left * width) body)

off : false ≡ true → ⊥
off e = cc

tail-sound : (child : Bool) (n : ℕ) (bytes : List ℕ) → Tail child n bytes → IsBytes bytes
tail-sound true n bytes h = h.sound
tail-sound false n bytes h = h.sound

tail-page : (child : Bool) (n : ℕ) (bytes : List ℕ) → Tail child n bytes → child ≡ true → number bytes < 65536
tail-page true n bytes h e = omega (arith, h.most)
tail-page false n bytes h e = absurd (off e)

tail-from : (child : Bool) (n : ℕ) (bytes : List ℕ) → length bytes ≡ n → IsBytes bytes → (child ≡ true → number bytes < 65536) → Tail child n bytes
tail-from true n bytes wide sound h = record { wide = wide; sound = sound; least = omega arith; most = omega (arith, h refl) }
tail-from false n bytes wide sound h = record { wide = wide; sound = sound }

whole-sound : (n : ℕ) (xs : List ℕ) → IsBytes (take n xs) → IsBytes (drop n xs) → IsBytes xs
whole-sound n xs h k = subst IsBytes (take-append-drop n xs) (bytes-append (take n xs) (drop n xs) h k)

first-low : (key left n : ℕ) (first : Bool) → n ≤ ceiling key first left → first ≡ true → n ≡ 0
first-low key left n true h e = omega arith
first-low key left n false h e = absurd (off e)

under-ceiling : (key left n : ℕ) (first : Bool) → (first ≡ true → n ≡ 0) → n + 1 + left ≤ 256 ^ key → n ≤ ceiling key first left
under-ceiling key left n true h k = omega (arith, h refl)
under-ceiling key left n false h k = omega arith

next-size : (left width behind a b : ℕ) → a ≡ width + b → b ≡ left * width + behind → a ≡ suc left * width + behind
next-size left width behind a b h k = omega (arith, suc-mul left width)

next-drop : (left width : ℕ) (body : List ℕ) → drop (left * width) (drop width body) ≡ drop (suc left * width) body
next-drop left width body =
    let e : width + left * width ≡ suc left * width = omega (arith, suc-mul left width) in
    drop-drop (left * width) width body ∙ ap (λ (n : ℕ). drop n body) e

none-dropped : (width : ℕ) (body : List ℕ) → drop (0 * width) body ≡ body
none-dropped width body = let e : 0 * width ≡ 0 = omega arith in ap (λ (n : ℕ). drop n body) e

pub rows-laid : (child : Bool) (key width behind : ℕ) (first : Bool) (left low : ℕ) (body : List ℕ) → key ≤ width → Rows child key width behind first left low body → Laid child key width behind first left low body
unfolding Rows
rows-laid child key width behind first zero low body within h = record {
  size = h.wide ∙ omega arith;
  sound = h.sound;
  order = tt;
  pages = λ e k d l. absurd (omega (arith, l));
  first_key = λ e k. absurd (omega arith);
  rest = subst AreBlank (sym (none-dropped width body)) (number-blank body (omega (arith, h.most)));
}
rows-laid child key width behind first (suc left) low body within h =
    let row : List ℕ = take width body in
    let front : Row child key width low (ceiling key first left) row = h.front in
    let rest : Laid child key width behind false left (number (take key row) + 1) (drop width body) = rows-laid child key width behind false left (number (take key row) + 1) (drop width body) within h.rest in
    let wide : length row ≡ width = row-wide child key width low (ceiling key first left) row within front in
    let short : take key row ≡ take key body = take-take key width body within in
    record {
      size = next-size left width behind (length body) (length (drop width body)) (seq-wide width (length (drop width body)) body wide refl) rest.size;
      sound = whole-sound width body (whole-sound key row (front.front).sound (tail-sound child (width - key) (drop key row) front.rest)) rest.sound;
      order = ((front.front).least, rest.order);
      pages = λ e. All-cons (λ (r : List ℕ). number (drop key r) < 65536) row (pieces left width (drop width body)) (tail-page child (width - key) (drop key row) front.rest e) (rest.pages e);
      first_key = λ e k. ap number (sym short) ∙ first-low key left (number (take key row)) first (front.front).most e;
      rest = subst AreBlank (next-drop left width body) rest.rest;
    }

pub row-key : (key width : ℕ) (body : List ℕ) → key ≤ width → width ≤ length body → IsBytes body → HasKey key (take width body)
row-key key width body within room sound =
    let wide : length (take width body) ≡ width = length-take-le width body room in
    record {
      wide = length-take-le key (take width body) (omega (arith, wide));
      sound = bytes-take key (take width body) (bytes-take width body sound);
    }

pub all-keys : (key width left : ℕ) (body : List ℕ) → key ≤ width → left * width ≤ length body → IsBytes body → AllKeys key (pieces left width body)
all-keys key width zero body within room sound = tt
all-keys key width (suc left) body within room sound =
    let sum : suc left * width ≡ left * width + width = suc-mul left width in
    let rest : left * width ≤ length (drop width body) = omega (arith, length-drop width body, sum) in
    (row-key key width body within (omega (arith, sum)) sound, all-keys key width left (drop width body) within rest (bytes-drop width body sound))

pub length-pieces : (left width : ℕ) (body : List ℕ) → length (pieces left width body) ≡ left
length-pieces zero width body = refl
length-pieces (suc left) width body = omega (arith, length-pieces left width (drop width body))

pub laid-rows : (child : Bool) (key width behind : ℕ) (first : Bool) (left low : ℕ) (body : List ℕ) → key ≤ width → Laid child key width behind first left low body → Rows child key width behind first left low body
unfolding Rows
laid-rows child key width behind first zero low body within h = record {
  wide = h.size ∙ omega arith;
  sound = h.sound;
  least = omega arith;
  most = omega (arith, blank-number body (subst AreBlank (none-dropped width body) h.rest));
}
laid-rows child key width behind first (suc left) low body within h =
    let row : List ℕ = take width body in
    let sum : suc left * width ≡ left * width + width = suc-mul left width in
    let room : width ≤ length body = omega (arith, h.size, sum) in
    let wide : length row ≡ width = length-take-le width body room in
    let has : HasKey key row = row-key key width body within room h.sound in
    let short : take key row ≡ take key body = take-take key width body within in
    let below : number (take key row) < 256 ^ key = subst (λ (n : ℕ). number (take key row) < 256 ^ n) has.wide (number-lt (take key row) has.sound) in
    let behind-size : left * width ≤ length (drop width body) = omega (arith, length-drop width body, sum, h.size) in
    let keys : AllKeys key (pieces left width (drop width body)) = all-keys key width left (drop width body) within behind-size (bytes-drop width body h.sound) in
    let fits : number (take key row) + 1 + left ≤ 256 ^ key =
    omega (arith, ordered-room key (number (take key row) + 1) (pieces left width (drop width body)) keys (omega (arith, below)) (h.order).1, length-pieces left width (drop width body)) in
    let tail : Tail child (width - key) (drop key row) =
    tail-from child (width - key) (drop key row) (omega (arith, length-drop key row, wide)) (bytes-drop key row (bytes-take width body h.sound))
    (λ e. All-head (λ (r : List ℕ). number (drop key r) < 65536) row (pieces left width (drop width body)) (h.pages e)) in
    record {
      front = record {
        front = record {
          wide = has.wide;
          sound = has.sound;
          least = (h.order).0;
          most = under-ceiling key left (number (take key row)) first (λ e. ap number short ∙ h.first_key e (omega arith)) fits;
        };
        rest = tail;
      };
      rest = laid-rows child key width behind false left (number (take key row) + 1) (drop width body) within (record {
        size = omega (arith, length-drop width body, h.size, sum);
        sound = bytes-drop width body h.sound;
        order = (h.order).1;
        pages = λ e. All-tail (λ (r : List ℕ). number (drop key r) < 65536) row (pieces left width (drop width body)) (h.pages e);
        first_key = λ e k. absurd (off e);
        rest = subst AreBlank (sym (next-drop left width body)) h.rest;
      });
    }
