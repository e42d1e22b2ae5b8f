use Rattle.std.proofs.Common.{ℕ, List, arith}
use Rattle.st_image.specs.Parts.{Field, IsHead}
use Rattle.st_image.proofs.HeadChecks.{FromCount, FromNext, FromStore, kind-on, kind-wrong, last-right, last-wrong, part-on, part-wrong, some-count, some-last, some-next, some-store}
use Rattle.st_image.proofs.Wrong.{Carries}
use Rattle.st_image.proofs.head.head_fault.Goals as goal

pub returns-in-Some : goal.returns-in-Some
returns-in-Some c =
    let kind : ℕ = c.args.head.now.kind in
    let least : ℕ = c.args.head.now.least in
    let most : ℕ = c.args.head.now.most in
    let store : ℕ = c.args.head.now.store in
    let next : ℕ = c.args.head.now.next in
    let last : ℕ = c.args.head.now.last in
    let bytes : List ℕ = c.args.bytes.now in
    kind-wrong kind least most store next last c.from-kind.result bytes c.in-Some.place c.from-kind.ensures c.requires.size (some-count least most store next last (omega arith) c.requires.order (omega arith)) c.in-Some.ensures

pub returns-in-Some-outside_16 : goal.returns-in-Some-outside_16
returns-in-Some-outside_16 c =
    let kind : ℕ = c.args.head.now.kind in
    let least : ℕ = c.args.head.now.least in
    let most : ℕ = c.args.head.now.most in
    let store : ℕ = c.args.head.now.store in
    let next : ℕ = c.args.head.now.next in
    let last : ℕ = c.args.head.now.last in
    let bytes : List ℕ = c.args.bytes.now in
    let one : Carries (IsHead kind least most store next last) bytes 2 (FromCount least most store next last) = kind-on kind least most store next last c.from-kind.result bytes c.from-kind.ensures c.requires.size c.in_default.ensures in
    part-wrong (IsHead kind least most store next last) bytes 2 2 least most (FromStore store next last) c.in-Some-outside_16.place one (omega (arith, c.requires.size)) (some-store store next last (omega arith)) c.in-Some-outside_16.ensures

pub returns-in-Some-outside_32 : goal.returns-in-Some-outside_32
returns-in-Some-outside_32 c =
    let kind : ℕ = c.args.head.now.kind in
    let least : ℕ = c.args.head.now.least in
    let most : ℕ = c.args.head.now.most in
    let store : ℕ = c.args.head.now.store in
    let next : ℕ = c.args.head.now.next in
    let last : ℕ = c.args.head.now.last in
    let bytes : List ℕ = c.args.bytes.now in
    let one : Carries (IsHead kind least most store next last) bytes 2 (FromCount least most store next last) = kind-on kind least most store next last c.from-kind.result bytes c.from-kind.ensures c.requires.size c.in_default.ensures in
    let two : Carries (IsHead kind least most store next last) bytes 4 (FromStore store next last) = part-on (IsHead kind least most store next last) bytes 2 2 least most (FromStore store next last) one (omega (arith, c.requires.size)) c.in_default-outside_16.ensures in
    part-wrong (IsHead kind least most store next last) bytes 4 4 store store (FromNext next last) c.in-Some-outside_32.place two (omega (arith, c.requires.size)) (some-next next last) c.in-Some-outside_32.ensures

pub returns-in-Some-outside_32-2 : goal.returns-in-Some-outside_32-2
returns-in-Some-outside_32-2 c =
    let kind : ℕ = c.args.head.now.kind in
    let least : ℕ = c.args.head.now.least in
    let most : ℕ = c.args.head.now.most in
    let store : ℕ = c.args.head.now.store in
    let next : ℕ = c.args.head.now.next in
    let last : ℕ = c.args.head.now.last in
    let bytes : List ℕ = c.args.bytes.now in
    let one : Carries (IsHead kind least most store next last) bytes 2 (FromCount least most store next last) = kind-on kind least most store next last c.from-kind.result bytes c.from-kind.ensures c.requires.size c.in_default.ensures in
    let two : Carries (IsHead kind least most store next last) bytes 4 (FromStore store next last) = part-on (IsHead kind least most store next last) bytes 2 2 least most (FromStore store next last) one (omega (arith, c.requires.size)) c.in_default-outside_16.ensures in
    let three : Carries (IsHead kind least most store next last) bytes 8 (FromNext next last) = part-on (IsHead kind least most store next last) bytes 4 4 store store (FromNext next last) two (omega (arith, c.requires.size)) c.in_default-outside_32.ensures in
    part-wrong (IsHead kind least most store next last) bytes 8 4 0 next (Field 4 0 last) c.in-Some-outside_32-2.place three (omega (arith, c.requires.size)) (some-last last) c.in-Some-outside_32-2.ensures

pub returns-in-Some-outside_32-3 : goal.returns-in-Some-outside_32-3
returns-in-Some-outside_32-3 c =
    let kind : ℕ = c.args.head.now.kind in
    let least : ℕ = c.args.head.now.least in
    let most : ℕ = c.args.head.now.most in
    let store : ℕ = c.args.head.now.store in
    let next : ℕ = c.args.head.now.next in
    let last : ℕ = c.args.head.now.last in
    let bytes : List ℕ = c.args.bytes.now in
    let one : Carries (IsHead kind least most store next last) bytes 2 (FromCount least most store next last) = kind-on kind least most store next last c.from-kind.result bytes c.from-kind.ensures c.requires.size c.in_default.ensures in
    let two : Carries (IsHead kind least most store next last) bytes 4 (FromStore store next last) = part-on (IsHead kind least most store next last) bytes 2 2 least most (FromStore store next last) one (omega (arith, c.requires.size)) c.in_default-outside_16.ensures in
    let three : Carries (IsHead kind least most store next last) bytes 8 (FromNext next last) = part-on (IsHead kind least most store next last) bytes 4 4 store store (FromNext next last) two (omega (arith, c.requires.size)) c.in_default-outside_32.ensures in
    let four : Carries (IsHead kind least most store next last) bytes 12 (Field 4 0 last) = part-on (IsHead kind least most store next last) bytes 8 4 0 next (Field 4 0 last) three (omega (arith, c.requires.size)) c.in_default-outside_32-2.ensures in
    last-wrong (IsHead kind least most store next last) bytes 12 last c.in-Some-outside_32-3.place four c.in-Some-outside_32-3.ensures

pub returns : goal.returns
returns c =
    let kind : ℕ = c.args.head.now.kind in
    let least : ℕ = c.args.head.now.least in
    let most : ℕ = c.args.head.now.most in
    let store : ℕ = c.args.head.now.store in
    let next : ℕ = c.args.head.now.next in
    let last : ℕ = c.args.head.now.last in
    let bytes : List ℕ = c.args.bytes.now in
    let one : Carries (IsHead kind least most store next last) bytes 2 (FromCount least most store next last) = kind-on kind least most store next last c.from-kind.result bytes c.from-kind.ensures c.requires.size c.in_default.ensures in
    let two : Carries (IsHead kind least most store next last) bytes 4 (FromStore store next last) = part-on (IsHead kind least most store next last) bytes 2 2 least most (FromStore store next last) one (omega (arith, c.requires.size)) c.in_default-outside_16.ensures in
    let three : Carries (IsHead kind least most store next last) bytes 8 (FromNext next last) = part-on (IsHead kind least most store next last) bytes 4 4 store store (FromNext next last) two (omega (arith, c.requires.size)) c.in_default-outside_32.ensures in
    let four : Carries (IsHead kind least most store next last) bytes 12 (Field 4 0 last) = part-on (IsHead kind least most store next last) bytes 8 4 0 next (Field 4 0 last) three (omega (arith, c.requires.size)) c.in_default-outside_32-2.ensures in
    last-right (IsHead kind least most store next last) bytes 12 last four c.in_default-outside_32-3.ensures
