use Rattle.std.specs.Prelude.{◌≡◌, Ok, Err, Some, [], ◌∷◌, codes, negsuc, refl}
use Rattle.st_token.specs.declared.fault.SexpFault.TheVariants.{Stray, BadNumber}
use Rattle.st_token.specs.declared.token.TokenKind.TheVariants as kind
use Rattle.st_token.specs.Scan.{next_of}

row1 : next_of 5 (codes " (9x)") ≡ Ok (Some (record { kind = kind.Open; from = 1; to = 2 }, codes "9x)"))
row1 = refl

row2 : next_of 5 (codes "9x)") ≡ Err (BadNumber 2)
row2 = refl

row3 : next_of 5 (codes "-12 )") ≡ Ok (Some (record { kind = kind.Number (negsuc 11); from = 0; to = 3 }, codes " )"))
row3 = refl

row4 : next_of 19 (codes "9223372036854775808") ≡ Err (BadNumber 0)
row4 = refl

row5 : next_of 20 (codes "-9223372036854775808") ≡ Ok (Some (record { kind = kind.Number (negsuc 9223372036854775807); from = 0; to = 20 }, []))
row5 = refl

row6 : next_of 8 (34 ∷ 97 ∷ 92 ∷ 110 ∷ 92 ∷ 34 ∷ 34 ∷ 32 ∷ []) ≡ Ok (Some (record { kind = kind.Quoted (97 ∷ 10 ∷ 34 ∷ []); from = 0; to = 7 }, 32 ∷ []))
row6 = refl

row7 : next_of 8 (34 ∷ 97 ∷ 92 ∷ 116 ∷ 92 ∷ 34 ∷ 34 ∷ 32 ∷ []) ≡ Err (Stray 2)
row7 = refl

row8 : next_of 12 (59 ∷ 40 ∷ 10 ∷ 65 ∷ 46 ∷ 98 ∷ 35 ∷ 49 ∷ 41 ∷ []) ≡ Ok (Some (record { kind = kind.Name (codes "a.b#1"); from = 6; to = 11 }, 41 ∷ []))
row8 = refl
