-- What the searches hand back, and when they hand back nothing.
use Prim.Native.Nat.{ℕ, ◌+◌, ◌≤◌}
use native.Mathlib.Omega.{arith}
use mathlib.Core.Path.{◌≡◌, refl, sym, ap, ◌∙◌}
use mathlib.Core.Bool.{true, false}
use mathlib.Core.List.{List, [], Memᴰ}
use lib.ListN.{length, drop, length-take, length-drop}
use lib.Dec.{leb, eqb}
use borrow.Author.Tests.{leb-true, eqb-true}
use Rattle.std.specs.Option.{is_some}
use Rattle.std.specs.Prelude.{Option, Some, None}
use Rattle.octets.specs.Choice.{both, every}
use Rattle.octets.proofs.ChoiceLaws.{never, fails, pick_all, both_left, both_right, both_none}
use Rattle.book.specs.declared.Entry.{Entry}
use Rattle.book.specs.declared.Section.{Section}
use Rattle.octets.specs.Part.{bytes_at}
use Rattle.book.specs.Entries.{end_of, entry_key, entry_value, entries_in, end_in, section_at, routers, accounts, routers_of, accounts_of}
use Rattle.book.specs.Whole.{length_fits, entry_fits, among, distinct, keys_of, whole_section, whole_book}
use Rattle.book.specs.Search.{first_match, handed, password_in, password_of, secret_in, secret_of}
use Rattle.book.proofs.RepeatLaws.{found_among}
use Rattle.book.proofs.MatchLaws.{found_in, only_match, none_found, each_fits, section_grows, each_within, each_address}

-- the addresses of a book's routers
abbrev pub addresses_of : List ℕ → List (List ℕ)
addresses_of book = keys_of book (routers_of book)

-- the names of its accounts
abbrev pub names_of : List ℕ → List (List ℕ)
names_of book = keys_of book (accounts_of book)

-- an answer is the value of this entry: that part of the book, whole, of 1 to 253 bytes
pub record HandedBack (book : List ℕ) (e : Entry) (answer : List ℕ) : Type 0 where
  pub part : answer ≡ bytes_at book e.value
  pub within : e.value.at + e.value.len ≤ length book
  pub least : 1 ≤ e.value.len
  pub most : e.value.len ≤ 253
  pub long : length answer ≡ e.value.len

-- a section of a whole book
record Sound (book : List ℕ) (s : Section) : Type 0 where
  pub fits : every entry_fits (entries_in book s) ≡ true
  pub differ : distinct (keys_of book (entries_in book s)) ≡ true
  pub within : end_in book s ≤ length book

module _ (book : List ℕ) (s : Section) (key later : List ℕ) where
  -- a search of one section, by whether its keys hold the key
  absent : among key (keys_of book (entries_in book s)) ≡ false → handed book (first_match book key (entries_in book s)) later ≡ later
  absent n = rw (none_found (first_match book key (entries_in book s)) (found_among book key (entries_in book s) ∙ n))

  module _ (w : Sound book s) where
    value_of : (e : Entry) → Memᴰ e (entries_in book s) → HandedBack book e (entry_value book e)
    unfolding entry_fits entry_value bytes_at
    value_of e m =
        let f : length_fits e.value.len ≡ true = both_right (length_fits e.key.len) _ (each_fits (entries_in book s) e w.fits m) in
        let i : end_of e ≤ length book = omega (arith, each_within s.counted book s.at s.count e m, w.within) in
        record {
          part = refl;
          within = i;
          least = leb-true 1 e.value.len (both_left _ (leb e.value.len 253) f);
          most = leb-true e.value.len 253 (both_right (leb 1 e.value.len) _ f);
          long = length-take e.value.len (drop e.value.at book) ∙ simp length-drop (omega arith);
        }

    -- the entry with that key
    present : (e : Entry) → Memᴰ e (entries_in book s) → entry_key book e ≡ key → HandedBack book e (handed book (first_match book key (entries_in book s)) later)
    present e m k = rw (only_match book key (entries_in book s) e w.differ m k) (value_of e m)

    -- an entry's value is never empty
    not_empty : among key (keys_of book (entries_in book s)) ≡ true → handed book (first_match book key (entries_in book s)) later ≡ [] → ⊥
    not_empty a = go (first_match book key (entries_in book s)) refl
      where
        go : (f : Option Entry) → first_match book key (entries_in book s) ≡ f → handed book f later ≡ [] → ⊥
        go (Some e) q z =
            let v = value_of e (found_in book key (entries_in book s) e q).0 in
            let n : length (entry_value book e) ≡ 0 = ap length z in
            omega (arith, v.long, v.least)
        go None q z = never (sym (ap is_some q) ∙ found_among book key (entries_in book s) ∙ a)

    -- so an empty answer says that the key is absent
    empty_absent : handed book (first_match book key (entries_in book s)) later ≡ [] → among key (keys_of book (entries_in book s)) ≡ false
    empty_absent z = fails (among key (keys_of book (entries_in book s))) (λ q. not_empty q z)

module _ (book : List ℕ) (w : whole_book book ≡ true) where
  -- what a whole book says: where it ends, and both sections
  pub book_ends : end_in book (accounts book) ≡ length book
  unfolding whole_book
  book_ends = eqb-true (end_in book (accounts book)) (length book) (both_left _ _ (both_right (leb (length book) 65536) _ w))

  sections : both (whole_section book (routers book)) (whole_section book (accounts book)) ≡ true
  unfolding whole_book
  sections = both_right (eqb (end_in book (accounts book)) (length book)) _ (both_right (leb (length book) 65536) _ w)

  sound : (s : Section) → whole_section book s ≡ true → end_in book s ≤ length book → Sound book s
  unfolding whole_section
  sound s h i = record { fits = both_left (every entry_fits (entries_in book s)) _ h; differ = both_right (every entry_fits (entries_in book s)) _ h; within = i }

  sound_accounts : Sound book (accounts book)
  sound_accounts = sound (accounts book) (both_right (whole_section book (routers book)) _ sections) (omega (arith, book_ends))

  sound_routers : Sound book (routers book)
  unfolding accounts section_at
  sound_routers =
      sound (routers book) (both_left _ (whole_section book (accounts book)) sections)
      (omega (arith, book_ends, section_grows true book (accounts book).at (accounts book).count))

-- how long a key is
key_long : (book : List ℕ) (e : Entry) (n : ℕ) → e.key.len ≡ n → e.key.at + n ≤ length book → length (entry_key book e) ≡ n
unfolding entry_key bytes_at
key_long book e n q h = length-take e.key.len (drop e.key.at book) ∙ simp length-drop (omega arith)

-- PASSWORDS
module _ (mill visitors name : List ℕ) where
  -- a broken book, also where the other has the name
  pub mill_broken : whole_book mill ≡ false → password_of mill visitors name ≡ []
  unfolding password_of
  mill_broken b = rw b

  pub visitors_broken : whole_book visitors ≡ false → password_of mill visitors name ≡ []
  unfolding password_of
  visitors_broken b = rw (b, both_none (whole_book mill))

  module _ (w : whole_book mill ≡ true) (v : whole_book visitors ≡ true) where
    -- of whole books the search alone decides
    pub password_in_law : password_in mill visitors name ≡ password_of mill visitors name
    unfolding password_of
    password_in_law = rw (w, v)

    -- an account of the mill's book, whatever the visitors' book holds under that name
    pub of_mill : (e : Entry) → Memᴰ e (accounts_of mill) → entry_key mill e ≡ name → HandedBack mill e (password_of mill visitors name)
    unfolding password_in
    of_mill e m k = rw (← password_in_law) (present mill (accounts mill) name _ (sound_accounts mill w) e m k)

    -- a name in both books
    pub of_both : (e f : Entry) → Memᴰ e (accounts_of mill) → entry_key mill e ≡ name → Memᴰ f (accounts_of visitors) → entry_key visitors f ≡ name
        → password_of mill visitors name ≡ entry_value mill e
    unfolding entry_value
    of_both e f m k n l = (of_mill e m k).part

    -- an account of the visitors' book, where the mill's has none of that name
    pub of_visitors : among name (names_of mill) ≡ false → (e : Entry) → Memᴰ e (accounts_of visitors) → entry_key visitors e ≡ name
        → HandedBack visitors e (password_of mill visitors name)
    unfolding password_in
    of_visitors a e m k =
        rw (← password_in_law, absent mill (accounts mill) name _ a) (present visitors (accounts visitors) name [] (sound_accounts visitors v) e m k)

    -- empty exactly where no account matches
    pub none_empty : among name (names_of mill) ≡ false → among name (names_of visitors) ≡ false → password_of mill visitors name ≡ []
    unfolding password_in
    none_empty a b = sym password_in_law ∙ absent mill (accounts mill) name _ a ∙ absent visitors (accounts visitors) name [] b

    pub empty_none : password_of mill visitors name ≡ [] → (among name (names_of mill) ≡ false) × (among name (names_of visitors) ≡ false)
    unfolding password_in
    empty_none z =
        let a = empty_absent mill (accounts mill) name _ (sound_accounts mill w) (password_in_law ∙ z) in
        (a, empty_absent visitors (accounts visitors) name [] (sound_accounts visitors v) (sym (absent mill (accounts mill) name _ a) ∙ password_in_law ∙ z))

-- SECRETS
module _ (mill address : List ℕ) where
  -- a broken book hands out none
  pub secret_broken : whole_book mill ≡ false → secret_of mill address ≡ []
  unfolding secret_of
  secret_broken b = rw b

  module _ (w : whole_book mill ≡ true) where
    -- of a whole book the search alone decides
    pub secret_in_law : secret_in mill address ≡ secret_of mill address
    unfolding secret_of
    secret_in_law = rw w

    -- a router of the book
    pub of_router : (e : Entry) → Memᴰ e (routers_of mill) → entry_key mill e ≡ address → HandedBack mill e (secret_of mill address)
    unfolding secret_in
    of_router e m k = rw (← secret_in_law) (present mill (routers mill) address [] (sound_routers mill w) e m k)

    -- empty exactly where no router matches
    pub no_router_empty : among address (addresses_of mill) ≡ false → secret_of mill address ≡ []
    unfolding secret_in
    no_router_empty a = sym secret_in_law ∙ absent mill (routers mill) address [] a

    pub empty_no_router : secret_of mill address ≡ [] → among address (addresses_of mill) ≡ false
    unfolding secret_in
    empty_no_router z = empty_absent mill (routers mill) address [] (sound_routers mill w) (secret_in_law ∙ z)

  -- an address that has not 4 bytes is no router's
  pub only_four : (length address ≡ 4 → ⊥) → secret_of mill address ≡ []
  unfolding secret_of secret_in routers section_at
  only_four h =
      pick_all (λ l. l ≡ []) (whole_book mill) _ []
      (λ w. go (sound_routers mill w) (first_match mill address (routers_of mill)) refl)
      (λ b. refl)
    where
      go : Sound mill (routers mill) → (f : Option Entry) → first_match mill address (routers_of mill) ≡ f → handed mill f [] ≡ []
      go w (Some e) q =
          let m = found_in mill address (routers_of mill) e q in
          let i : end_of e ≤ length mill = omega (arith, each_within false mill (routers mill).at (routers mill).count e m.0, w.within) in
          let a = each_address mill (routers mill).at (routers mill).count e m.0 in
          absurd (h (ap length (sym m.1) ∙ key_long mill e 4 a.0 (omega arith)))
      go w None q = refl
