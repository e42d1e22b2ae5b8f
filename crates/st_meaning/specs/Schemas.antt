-- The schemas of transactions that were worked out by hand.
use Rattle.std.specs.Prelude.{ℕ, true, false, List, [], ◌∷◌, codes, Some, None}
use Rattle.st_values.specs.declared.value.Kind.{Kind}
use Rattle.st_values.specs.declared.value.Kind.TheVariants as kind
use Rattle.st_lattice.specs.declared.attribute.Attribute.{Attribute}
use Rattle.st_lattice.specs.Outline.{Outline}

-- an attribute with single values and without options: its number, its owner, its name and its kind
abbrev pub plain : ℕ → ℕ → List ℕ → Kind → Attribute
plain number owner name k = record {
  number = number;
  owner = owner;
  name = name;
  kind = k;
  many = false;
  inverse = None;
  unique = false;
  no_nulls = false;
  index = false;
  column = false;
}

-- (define-schema tiny)
-- (define-entity-type person () ((name string) (age integer)))
abbrev pub tiny : Outline
tiny = record {
  name = (codes "tiny");
  names = ((codes "person") ∷ []);
  parents = ([] ∷ []);
  attributes =
      plain 0 0 (codes "name") (kind.Text 80)
      ∷ plain 1 0 (codes "age") kind.Int
      ∷ [];
  next = 2;
}

-- (define-schema d)
-- (define-entity-type thing () ((code integer :unique t)))
-- (define-entity-type owned (thing) ((owner string)))
-- (define-entity-type lent (thing) ((due integer)))
-- (define-entity-type book (owned lent) ((title string)))
abbrev pub diamond : Outline
diamond = record {
  name = (codes "d");
  names = ((codes "thing") ∷ (codes "owned") ∷ (codes "lent") ∷ (codes "book") ∷ []);
  parents = ([] ∷ (0 ∷ []) ∷ (0 ∷ []) ∷ (1 ∷ 2 ∷ []) ∷ []);
  attributes =
      record (plain 0 0 (codes "code") kind.Int) { unique = true; index = true }
      ∷ plain 1 1 (codes "owner") (kind.Text 80)
      ∷ plain 2 2 (codes "due") kind.Int
      ∷ plain 3 3 (codes "title") (kind.Text 80)
      ∷ [];
  next = 4;
}

-- (define-schema t)
-- (define-entity-type note () ((body (string 200) :index t)))
abbrev pub notes : Outline
notes = record {
  name = (codes "t");
  names = ((codes "note") ∷ []);
  parents = ([] ∷ []);
  attributes =
      record (plain 0 0 (codes "body") (kind.Text 200)) { index = true }
      ∷ [];
  next = 1;
}

-- (define-schema two)
-- (define-entity-type dog () ((tag integer :unique t)))
-- (define-entity-type cat () ((tag integer :unique t)))
abbrev pub pets : Outline
pets = record {
  name = (codes "two");
  names = ((codes "dog") ∷ (codes "cat") ∷ []);
  parents = ([] ∷ [] ∷ []);
  attributes =
      record (plain 0 0 (codes "tag") kind.Int) { unique = true; index = true }
      ∷ record (plain 1 1 (codes "tag") kind.Int) { unique = true; index = true }
      ∷ [];
  next = 2;
}

-- (define-schema club)
-- (define-entity-type person () ((name string :index t) (boss person :inverse reports)))
-- (define-entity-type room () ((label string :no-nulls t) (keeper person :no-nulls t) (users (set-of person) :inverse rooms)))
abbrev pub club : Outline
club = record {
  name = (codes "club");
  names = ((codes "person") ∷ (codes "room") ∷ []);
  parents = ([] ∷ [] ∷ []);
  attributes =
      record (plain 0 0 (codes "name") (kind.Text 80)) { index = true }
      ∷ record (plain 1 0 (codes "boss") (kind.Entity 0)) { inverse = Some (codes "reports") }
      ∷ record (plain 2 1 (codes "label") (kind.Text 80)) { no_nulls = true }
      ∷ record (plain 3 1 (codes "keeper") (kind.Entity 0)) { no_nulls = true }
      ∷ record (plain 4 1 (codes "users") (kind.Entity 0)) { many = true; inverse = Some (codes "rooms") }
      ∷ [];
  next = 5;
}

-- (define-schema staff)
-- (define-entity-type person () ((name string) (age integer)))
-- (define-entity-type student (person) ((year integer)))
abbrev pub staff : Outline
staff = record {
  name = (codes "staff");
  names = ((codes "person") ∷ (codes "student") ∷ []);
  parents = ([] ∷ (0 ∷ []) ∷ []);
  attributes =
      plain 0 0 (codes "name") (kind.Text 80)
      ∷ plain 1 0 (codes "age") kind.Int
      ∷ plain 2 1 (codes "year") kind.Int
      ∷ [];
  next = 3;
}

-- (define-schema institute)
-- (define-entity-type unit () ((code (string 8) :unique t :no-nulls t) (title string)))
-- (define-entity-type person () ((badge integer :unique t :no-nulls t) (name string :index t) (unit unit :inverse members)))
-- (define-entity-type staff (person) ((room room :inverse people) (grade integer)))
-- (define-entity-type student (person) ((year integer) (tutor staff :inverse students)))
-- (define-entity-type room () ((label (string 8) :unique t) (seats integer)))
-- (define-entity-type project () ((name string :index t) (team (set-of person) :inverse projects)))
abbrev pub institute : Outline
institute = record {
  name = (codes "institute");
  names = ((codes "unit") ∷ (codes "person") ∷ (codes "staff") ∷ (codes "student") ∷ (codes "room") ∷ (codes "project") ∷ []);
  parents = ([] ∷ [] ∷ (1 ∷ []) ∷ (1 ∷ []) ∷ [] ∷ [] ∷ []);
  attributes =
      record (plain 0 0 (codes "code") (kind.Text 8)) { unique = true; no_nulls = true; index = true }
      ∷ plain 1 0 (codes "title") (kind.Text 80)
      ∷ record (plain 2 1 (codes "badge") kind.Int) { unique = true; no_nulls = true; index = true }
      ∷ record (plain 3 1 (codes "name") (kind.Text 80)) { index = true }
      ∷ record (plain 4 1 (codes "unit") (kind.Entity 0)) { inverse = Some (codes "members") }
      ∷ record (plain 5 2 (codes "room") (kind.Entity 4)) { inverse = Some (codes "people") }
      ∷ plain 6 2 (codes "grade") kind.Int
      ∷ plain 7 3 (codes "year") kind.Int
      ∷ record (plain 8 3 (codes "tutor") (kind.Entity 2)) { inverse = Some (codes "students") }
      ∷ record (plain 9 4 (codes "label") (kind.Text 8)) { unique = true; index = true }
      ∷ plain 10 4 (codes "seats") kind.Int
      ∷ record (plain 11 5 (codes "name") (kind.Text 80)) { index = true }
      ∷ record (plain 12 5 (codes "team") (kind.Entity 1)) { many = true; inverse = Some (codes "projects") }
      ∷ [];
  next = 13;
}

-- (define-schema rings)
-- (define-entity-type thing () ())
-- (define-entity-type node (thing) ((next thing :no-nulls t)))
abbrev pub rings : Outline
rings = record {
  name = (codes "rings");
  names = ((codes "thing") ∷ (codes "node") ∷ []);
  parents = ([] ∷ (0 ∷ []) ∷ []);
  attributes =
      record (plain 0 1 (codes "next") (kind.Entity 0)) { no_nulls = true }
      ∷ [];
  next = 1;
}
