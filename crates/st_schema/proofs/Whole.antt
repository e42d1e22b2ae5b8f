-- The text of a written schema is read as a schema that is the same.
use Rattle.std.proofs.Common.{◌≡◌, ℕ, suc, true, List, [], ◌∷◌, ◌++◌, map, Some, Ok, refl, ap, ◌∙◌, arith}
use Rattle.std.specs.Prelude.{codes}
use Rattle.st_sexp.specs.declared.form.Form.{Form}
use Rattle.st_sexp.specs.Views.{as_list}
use Rattle.st_sexp.specs.Reading.{Due}
use Rattle.st_sexp.proofs.Pieces.{IsForm, AreForms, IsNamed, Heads, word_form, list_form, list_of, item_more, item_end, behind_none, behind_more, first_more, line_gap, whole_text}
use Rattle.st_sexp.proofs.Pieces as piece
use Rattle.st_sexp.proofs.Naming.{name_form, name_at-named, behind-head}
use Rattle.st_schema.specs.declared.fault.SchemaFault.TheVariants as fault
use Rattle.st_schema.specs.declared.written.AttributeForm.{AttributeForm}
use Rattle.st_schema.specs.declared.written.TypeForm.{TypeForm}
use Rattle.st_schema.specs.declared.written.Written.{Written}
use Rattle.st_sexp.specs.Names.{is_name}
use Rattle.st_sexp.specs.Items.{behind}
use Rattle.st_schema.specs.Written.{names_at, attribute_forms, type_form, type_forms, schema_name, written}
use Rattle.st_schema.specs.Canonical.{in_list}
use Rattle.st_schema.proofs.Text.{attribute_line, type_text, text_of}
use Rattle.st_schema.proofs.Attributes.{AreGoodAttributes, AreNames, ReadsAttributes, attributes_reads, names_reads}
use Rattle.st_schema.proofs.Same.{IsType, AreTypes, IsWritten}

-- what the grammar gives of a type
pub record IsGoodType (t : TypeForm) : Type 0 where
  pub name : is_name t.name ≡ true
  pub parents : AreNames t.parents
  pub attributes : AreGoodAttributes t.attributes

abbrev pub AreGoodTypes : List TypeForm → Type 0
AreGoodTypes [] = Unit {0}
AreGoodTypes (t ∷ types) = IsGoodType t × AreGoodTypes types

abbrev pub HasType : List TypeForm → Type 0
HasType [] = ⊥
HasType (t ∷ types) = Unit {0}

-- what the grammar gives of a schema
pub record IsGood (w : Written) : Type 0 where
  pub name : is_name w.name ≡ true
  pub types : AreGoodTypes w.types
  pub some : HasType w.types

-- a list of such forms
record IsListOf (Q : List Form → Type 0) (form : Form) : Type 0 where
  pub forms : List Form
  pub list : as_list form ≡ Some forms
  pub holds : Q forms

listed : (text : List ℕ) (deep : ℕ) (Q : List Form → Type 0) → AreForms text deep Q → IsForm (40 ∷ text ++ 41 ∷ []) (suc deep) (IsListOf Q)
listed text deep Q are = list_form text deep Q (IsListOf Q) (λ form forms list holds. record { forms = forms; list = list; holds = holds }) are

record ReadsType (t : TypeForm) (form : Form) : Type 0 where
  pub again : TypeForm
  pub read : type_form form ≡ Ok again
  pub same : IsType t again

abbrev AttributesPart : TypeForm → List Form → Type 0
AttributesPart t = Heads (IsListOf (ReadsAttributes t.attributes)) (λ forms. forms ≡ [])

abbrev ParentsPart : TypeForm → List Form → Type 0
ParentsPart t = Heads (IsListOf (λ forms. names_at forms ≡ Ok t.parents)) (AttributesPart t)

abbrev NamePart : TypeForm → List Form → Type 0
NamePart t = Heads (IsNamed t.name) (ParentsPart t)

type_parts_are : (t : TypeForm) (list head name parents attributes : Form) (names forms : List Form) (again : List AttributeForm) → is_name t.name ≡ true → as_list list ≡ Some (head ∷ name ∷ parents ∷ attributes ∷ []) → IsNamed (codes "define-entity-type") head → IsNamed t.name name →
    as_list parents ≡ Some names → names_at names ≡ Ok t.parents → as_list attributes ≡ Some forms → attribute_forms forms ≡ Ok again → type_form list ≡ Ok (record { name = t.name; parents = t.parents; attributes = again })
type_parts_are t list head name parents attributes names forms again good is word named parents_list parents_read attributes_list attributes_read =
    rw (is, word.name, name_at-named fault.Form t.name name good named, parents_list, parents_read, attributes_list, attributes_read) refl

type_is : (t : TypeForm) (list head : Form) (rest : List Form) → is_name t.name ≡ true → as_list list ≡ Some (head ∷ rest) → IsNamed (codes "define-entity-type") head → NamePart t rest → ReadsType t list
type_is t list head rest good is word name =
    let parents = name.others in
    let attributes = parents.others in
    let all : rest ≡ name.head ∷ parents.head ∷ attributes.head ∷ [] =
    name.both ∙ ap (λ more. name.head ∷ more) (parents.both ∙ ap (λ more. parents.head ∷ more) (attributes.both ∙ ap (λ more. attributes.head ∷ more) attributes.others)) in
    record {
      again = record { name = t.name; parents = t.parents; attributes = attributes.first.holds.again };
      read = type_parts_are t list head name.head parents.head attributes.head parents.first.forms attributes.first.forms attributes.first.holds.again good (is ∙ ap (λ rest. Some (head ∷ rest)) all) word name.first parents.first.list parents.first.holds attributes.first.list attributes.first.holds.read;
      same = record { name = refl; parents = refl; attributes = attributes.first.holds.same };
    }

type_reads : (t : TypeForm) → IsGoodType t → IsForm (type_text t) 5 (ReadsType t)
type_reads t good =
    list_of (codes "define-entity-type") (t.name ∷ in_list t.parents ∷ in_list (map attribute_line t.attributes) ∷ []) 4 (IsNamed (codes "define-entity-type")) (NamePart t) (ReadsType t)
    (λ list head rest is word name. type_is t list head rest good.name is word name)
    (word_form (codes "define-entity-type") 4 refl)
    (item_more t.name (in_list t.parents ∷ in_list (map attribute_line t.attributes) ∷ []) 4 (IsNamed t.name) (ParentsPart t) (name_form t.name 4 good.name)
    (item_more (in_list t.parents) (in_list (map attribute_line t.attributes) ∷ []) 4 (IsListOf (λ forms. names_at forms ≡ Ok t.parents)) (AttributesPart t) (listed _ 3 (λ forms. names_at forms ≡ Ok t.parents) (names_reads t.parents 3 good.parents))
    (item_more (in_list (map attribute_line t.attributes)) [] 4 (IsListOf (ReadsAttributes t.attributes)) (λ forms. forms ≡ []) (listed _ 3 (ReadsAttributes t.attributes) (attributes_reads t.attributes 0 good.attributes)) (item_end 4))))

record ReadsTypes (types : List TypeForm) (forms : List Form) : Type 0 where
  pub again : List TypeForm
  pub read : type_forms forms ≡ Ok again
  pub same : AreTypes types again

types_one : (t : TypeForm) (types : List TypeForm) (form : Form) (forms : List Form) → ReadsType t form → ReadsTypes types forms → ReadsTypes (t ∷ types) (form ∷ forms)
types_one t types form forms one more = record { again = one.again ∷ more.again; read = rw (one.read, more.read) refl; same = (one.same, more.same) }

types_read : (types : List TypeForm) → AreGoodTypes types → AreForms (piece.behind 10 (map type_text types)) 5 (ReadsTypes types)
types_read [] good = behind_none 10 5 (ReadsTypes []) (record { again = []; read = refl; same = tt })
types_read (t ∷ types) good =
    behind_more 10 (type_text t) (map type_text types) 5 (ReadsType t) (ReadsTypes types) (ReadsTypes (t ∷ types)) line_gap (types_one t types) (type_reads t good.0) (types_read types good.1)

-- the form of the definition
record IsDefinition (name : List ℕ) (form : Form) : Type 0 where
  pub parts : List Form
  pub behind_it : behind (codes "define-schema") form ≡ Some parts
  pub named : schema_name form.from parts ≡ Ok name

name_alone : (name : List ℕ) (place : ℕ) (form : Form) → is_name name ≡ true → IsNamed name form → schema_name place (form ∷ []) ≡ Ok name
name_alone name place form good named = rw (name_at-named fault.Form name form good named) refl

definition_is : (name : List ℕ) (list head : Form) (rest : List Form) → is_name name ≡ true → as_list list ≡ Some (head ∷ rest) → IsNamed (codes "define-schema") head → Heads (IsNamed name) (λ forms. forms ≡ []) rest → IsDefinition name list
definition_is name list head rest good is word found =
    let one = found.both ∙ ap (λ more. found.head ∷ more) found.others in
    record {
      parts = rest;
      behind_it = behind-head (codes "define-schema") (codes "define-schema") list head rest is word;
      named = ap (schema_name list.from) one ∙ name_alone name list.from found.head good found.first;
    }

definition_reads : (name : List ℕ) → is_name name ≡ true → IsForm (in_list (codes "define-schema" ∷ name ∷ [])) 5 (IsDefinition name)
definition_reads name good =
    list_of (codes "define-schema") (name ∷ []) 4 (IsNamed (codes "define-schema")) (Heads (IsNamed name) (λ forms. forms ≡ [])) (IsDefinition name)
    (λ list head rest is word found. definition_is name list head rest good is word found)
    (word_form (codes "define-schema") 4 refl)
    (item_more name [] 4 (IsNamed name) (λ forms. forms ≡ []) (name_form name 4 good) (item_end 4))

-- forms that are read as a schema that is the same
pub record ReadsWritten (w : Written) (forms : List Form) : Type 0 where
  pub again : Written
  pub read : written forms ≡ Ok again
  pub same : IsWritten w again

written_one : (w : Written) (definition ty : Form) (types : List Form) → IsDefinition w.name definition → ReadsTypes w.types (ty ∷ types) → ReadsWritten w (definition ∷ ty ∷ types)
written_one w definition ty types one more = record {
  again = record { name = w.name; types = more.again };
  read = rw (one.behind_it, one.named, more.read) refl;
  same = record { name = refl; types = more.same };
}

no_types : (types again : List TypeForm) → type_forms [] ≡ Ok again → HasType types → AreTypes types again → ⊥
no_types [] again read some same = some
no_types (t ∷ types) [] read some same = same
no_types (t ∷ types) (u ∷ again) read some same = cc

written_is : (w : Written) (definition : Form) (forms : List Form) → HasType w.types → IsDefinition w.name definition → ReadsTypes w.types forms → ReadsWritten w (definition ∷ forms)
written_is w definition [] some one more = absurd (no_types w.types more.again more.read some more.same)
written_is w definition (ty ∷ types) some one more = written_one w definition ty types one more

pub whole_reads : (w : Written) → IsGood w → (forms : List Form) × Due (text_of w ++ 10 ∷ []) (Ok forms) × ReadsWritten w forms
whole_reads w good =
    whole_text (text_of w) 5 (ReadsWritten w) (omega arith)
    (first_more 10 (in_list (codes "define-schema" ∷ w.name ∷ [])) (map type_text w.types) 5 (IsDefinition w.name) (ReadsTypes w.types) (ReadsWritten w) line_gap (λ form forms one more. written_is w form forms good.some one more)
    (definition_reads w.name good.name) (types_read w.types good.types))
