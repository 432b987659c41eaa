-- The texts of a form by their pieces.
use Rattle.std.proofs.Common.{◌≡◌, ℕ, suc, ◌+◌, false, List, [], ◌∷◌, ◌++◌, length, Some, None, Option, sym, refl, ap, ◌∙◌, subst, subst₂, inl, inr, ⊎_elim, append_assoc, arith, length-append}
use Rattle.forms.proofs.Walks.{Spells, loose, Refuses, Stops, Apart, Along}
use Rattle.forms.specs.Marks.{numeral, digit_first}
use Rattle.forms.specs.Form.{Verdict, fine, out, Form, done, mark, numb, dash_or}
use Rattle.forms.specs.Pieces.{Piece, byte, num, spelling, Fine}

pub from_spells : {F A : Type 0} (f : Form F A) (a : A) (t : List ℕ) → Spells f a t → (ps : List (Piece F)) × Along f a ps × Fine ps × (t ≡ spelling ps)
from_spells (done x) a t h = ([], (h.0, refl), tt, h.1)
from_spells (mark b k) a t h =
    let r = from_spells k a h.0 h.2 in
    (byte b ∷ r.0, (r.0, refl, r.1), r.2, h.1 ∙ ap (λ x. b ∷ x) r.3)
from_spells (numb j k) a t h =
    let v = h.0 in
    let r = from_spells (k v) a h.1 h.4 in
    (num v (j v) ∷ r.0, (v, r.0, refl, r.1), (h.3, r.2), h.2 ∙ ap (λ x. numeral v ++ x) r.3)
from_spells (dash_or j k) a t (inl h) =
    let r = from_spells (k None) a h.0 h.2 in
    (byte 45 ∷ r.0, inl (r.0, refl, r.1), r.2, h.1 ∙ ap (λ x. 45 ∷ x) r.3)
from_spells (dash_or j k) a t (inr h) =
    let v = h.0 in
    let r = from_spells (k (Some v)) a h.1 h.4 in
    (num v (j v) ∷ r.0, inr (v, r.0, refl, r.1), (h.3, r.2), h.2 ∙ ap (λ x. numeral v ++ x) r.3)

pub from_loose : {F A : Type 0} (f : Form F A) (a : A) (t : List ℕ) → Spells (loose f) a t → (ps : List (Piece F)) × Along f a ps × (t ≡ spelling ps)
from_loose (done x) a t h = ([], (h.0, refl), h.1)
from_loose (mark b k) a t h =
    let r = from_loose k a h.0 h.2 in
    (byte b ∷ r.0, (r.0, refl, r.1), h.1 ∙ ap (λ x. b ∷ x) r.2)
from_loose (numb j k) a t h =
    let v = h.0 in
    let r = from_loose (k v) a h.1 h.4 in
    (num v (j v) ∷ r.0, (v, r.0, refl, r.1), h.2 ∙ ap (λ x. numeral v ++ x) r.2)
from_loose (dash_or j k) a t (inl h) =
    let r = from_loose (k None) a h.0 h.2 in
    (byte 45 ∷ r.0, inl (r.0, refl, r.1), h.1 ∙ ap (λ x. 45 ∷ x) r.2)
from_loose (dash_or j k) a t (inr h) =
    let v = h.0 in
    let r = from_loose (k (Some v)) a h.1 h.4 in
    (num v (j v) ∷ r.0, inr (v, r.0, refl, r.1), h.2 ∙ ap (λ x. numeral v ++ x) r.2)

pub to_loose : {F A : Type 0} (f : Form F A) (a : A) (ps : List (Piece F)) → Along f a ps → Spells (loose f) a (spelling ps)
to_loose (done x) a ps h = (h.0, ap spelling h.1)
to_loose (mark b k) a ps h = (spelling h.0, ap spelling h.1, to_loose k a h.0 h.2)
to_loose (numb j k) a ps h = (h.0, spelling h.1, ap spelling h.2, refl, to_loose (k h.0) a h.1 h.3)
to_loose (dash_or j k) a ps (inl h) = inl (spelling h.0, ap spelling h.1, to_loose (k None) a h.0 h.2)
to_loose (dash_or j k) a ps (inr h) = inr (h.0, spelling h.1, ap spelling h.2, refl, to_loose (k (Some h.0)) a h.1 h.3)

pub to_spells : {F A : Type 0} (f : Form F A) (a : A) (ps : List (Piece F)) → Along f a ps → Fine ps → Spells f a (spelling ps)
to_spells (done x) a ps h g = (h.0, ap spelling h.1)
to_spells (mark b k) a ps h g = (spelling h.0, ap spelling h.1, to_spells k a h.0 h.2 (subst Fine h.1 g))
to_spells (numb j k) a ps h g =
    let g' = subst Fine h.2 g in
    (h.0, spelling h.1, ap spelling h.2, g'.0, to_spells (k h.0) a h.1 h.3 g'.1)
to_spells (dash_or j k) a ps (inl h) g = inl (spelling h.0, ap spelling h.1, to_spells (k None) a h.0 h.2 (subst Fine h.1 g))
to_spells (dash_or j k) a ps (inr h) g =
    let g' = subst Fine h.2 g in
    inr (h.0, spelling h.1, ap spelling h.2, g'.0, to_spells (k (Some h.0)) a h.1 h.3 g'.1)

-- the pieces of some text of any form
some_pieces : {F A : Type 0} (f : Form F A) → (a : A) × (ps : List (Piece F)) × Along f a ps
some_pieces (done a) = (a, [], (refl, refl))
some_pieces (mark b k) = let r = some_pieces k in (r.0, byte b ∷ r.1, (r.1, refl, r.2))
some_pieces (numb j k) = let r = some_pieces (k 0) in (r.0, num 0 (j 0) ∷ r.1, (0, r.1, refl, r.2))
some_pieces (dash_or j k) = let r = some_pieces (k None) in (r.0, byte 45 ∷ r.1, inl (r.1, refl, r.2))

-- a refused number by pieces
pub record Stands {F A : Type 0} (f : Form F A) (t : List ℕ) (m : F) (p : ℕ) : Type 0 where
  pub tells : A
  pub before : List (Piece F)
  pub value : ℕ
  pub behind : List (Piece F)
  pub along : Along f tells (before ++ num value (out m) ∷ behind)
  pub ranged : Fine before
  pub rest : List ℕ
  pub spelt : t ≡ spelling before ++ (numeral value ++ rest)
  pub complete : digit_first rest ≡ false
  pub place : p ≡ length (spelling before)

stands_number : {F A : Type 0} (j : ℕ → Verdict F) (k : ℕ → Form F A) (t : List ℕ) (m : F) (p v : ℕ) (t' : List ℕ) → t ≡ numeral v ++ t' → digit_first t' ≡ false → j v ≡ out m → p ≡ 0 → Stands (numb j k) t m p
stands_number j k t m p v t' e d o z =
    let r = some_pieces (k v) in
    record {
      tells = r.0;
      before = [];
      value = v;
      behind = r.1;
      along = (v, r.1, ap (λ w. num v w ∷ r.1) (sym o), r.2);
      ranged = tt;
      rest = t';
      spelt = e;
      complete = d;
      place = z;
    }

stands_after : {F A : Type 0} (j : ℕ → Verdict F) (k : ℕ → Form F A) (t : List ℕ) (m : F) (p v q : ℕ) (t' : List ℕ) → t ≡ numeral v ++ t' → j v ≡ fine → p ≡ length (numeral v) + q → Stands (k v) t' m q → Stands (numb j k) t m p
stands_after j k t m p v q t' e y z r =
    record {
      tells = r.tells;
      before = num v (j v) ∷ r.before;
      value = r.value;
      behind = r.behind;
      along = (v, r.before ++ num r.value (out m) ∷ r.behind, refl, r.along);
      ranged = (y, r.ranged);
      rest = r.rest;
      spelt = e ∙ ap (λ x. numeral v ++ x) r.spelt ∙ sym (append_assoc (numeral v) (spelling r.before) (numeral r.value ++ r.rest));
      complete = r.complete;
      place = z ∙ ap (λ x. length (numeral v) + x) r.place ∙ sym (length-append (numeral v) (spelling r.before));
    }

-- the same with a dash in the number's place
stands_dash_or : {F A : Type 0} (j : ℕ → Verdict F) (k : Option ℕ → Form F A) (t : List ℕ) (m : F) (p : ℕ) → Stands (numb j (λ v. k (Some v))) t m p → Stands (dash_or j k) t m p
stands_dash_or j k t m p r =
    record {
      tells = r.tells;
      before = r.before;
      value = r.value;
      behind = r.behind;
      along = inr r.along;
      ranged = r.ranged;
      rest = r.rest;
      spelt = r.spelt;
      complete = r.complete;
      place = r.place;
    }

stands_byte : {F A : Type 0} (f k : Form F A) (b : ℕ) (t : List ℕ) (m : F) (p q : ℕ) (t' : List ℕ)
    → ((a : A) (ps : List (Piece F)) → Along k a ps → Along f a (byte b ∷ ps)) → t ≡ b ∷ t' → p ≡ suc q → Stands k t' m q → Stands f t m p
stands_byte f k b t m p q t' on e z r =
    record {
      tells = r.tells;
      before = byte b ∷ r.before;
      value = r.value;
      behind = r.behind;
      along = on r.tells (r.before ++ num r.value (out m) ∷ r.behind) r.along;
      ranged = r.ranged;
      rest = r.rest;
      spelt = e ∙ ap (λ x. b ∷ x) r.spelt;
      complete = r.complete;
      place = z ∙ ap suc r.place;
    }

pub from_refuses : {F A : Type 0} (f : Form F A) (t : List ℕ) (m : F) (p : ℕ) → Refuses f t m p → Stands f t m p
from_refuses (done x) t m p h = absurd h
from_refuses (mark b k) t m p h =
    stands_byte (mark b k) k b t m p h.1 h.0 (λ a ps g. (ps, refl, g)) h.2 h.3 (from_refuses k h.0 m h.1 h.4)
from_refuses {F} {A} (numb j k) t m p h =
    ⊎_elim
    (λ o. stands_number j k t m p h.0 h.1 h.2 h.3 o.0 o.1)
    (λ o. stands_after j k t m p h.0 o.0 h.1 h.2 o.1 o.2 (from_refuses (k h.0) h.1 m o.0 o.3))
    h.4
from_refuses (dash_or j k) t m p (inl h) =
    stands_byte (dash_or j k) (k None) 45 t m p h.1 h.0 (λ a ps g. inl (ps, refl, g)) h.2 h.3 (from_refuses (k None) h.0 m h.1 h.4)
from_refuses (dash_or j k) t m p (inr h) =
    stands_dash_or j k t m p
    (⊎_elim
    (λ o. stands_number j (λ v. k (Some v)) t m p h.0 h.1 h.2 h.3 o.0 o.1)
    (λ o. stands_after j (λ v. k (Some v)) t m p h.0 o.0 h.1 h.2 o.1 o.2 (from_refuses (k (Some h.0)) h.1 m o.0 o.3))
    h.4)

byte_not_num : {F : Type 0} {b v : ℕ} {w : Verdict F} {ps qs : List (Piece F)} → byte b ∷ ps ≡ num v w ∷ qs → ⊥
byte_not_num e = let z : ◌≡◌ {A = ℕ} 0 1 = cc in omega arith

same_bytes : {F : Type 0} {b c : ℕ} {ps qs : List (Piece F)} → byte b ∷ ps ≡ byte c ∷ qs → (b ≡ c) × (ps ≡ qs)
same_bytes e = (cc, cc)

same_nums : {F : Type 0} {v v' : ℕ} {w w' : Verdict F} {ps qs : List (Piece F)} → num v w ∷ ps ≡ num v' w' ∷ qs → (v ≡ v') × (w ≡ w') × (ps ≡ qs)
same_nums e = (cc, cc, cc)

not_empty : {F : Type 0} (ps qs : List (Piece F)) (p : Piece F) → ps ++ p ∷ qs ≡ [] → ⊥
not_empty ps qs p e = omega (arith, ap length e, length-append ps (p ∷ qs))

-- what stands behind a number, up to the next one, begins with no digit
stop_before : {F A : Type 0} (f : Form F A) → Stops f → (a : A) (bs : List (Piece F)) (v : ℕ) (w : Verdict F) (behind : List (Piece F)) → Along f a (bs ++ num v w ∷ behind) → (x : List ℕ) → digit_first (spelling bs ++ x) ≡ false
stop_before (done y) s a bs v w behind h x = absurd (not_empty bs behind (num v w) h.1)
stop_before (mark b k) s a [] v w behind h x = absurd (byte_not_num (sym h.1))
stop_before (mark b k) s a (byte c ∷ bs) v w behind h x = rw (same_bytes h.1).0 s
stop_before (mark b k) s a (num c d ∷ bs) v w behind h x = absurd (byte_not_num (sym h.1))
stop_before (numb j k) s a bs v w behind h x = absurd s
stop_before (dash_or j k) s a bs v w behind h x = absurd s

record Fits {F A : Type 0} (f : Form F A) (bs : List (Piece F)) (v : ℕ) (rest t : List ℕ) (m : F) (p : ℕ) : Type 0 where
  tells : A
  behind : List (Piece F)
  along : Along f tells (bs ++ num v (out m) ∷ behind)
  ranged : Fine bs
  spelt : t ≡ spelling bs ++ (numeral v ++ rest)
  complete : digit_first rest ≡ false
  place : p ≡ length (spelling bs)

-- a refused number, where a number is looked for
refuses_number : {F A : Type 0} (j : ℕ → Verdict F) (k : ℕ → Form F A) → ((v : ℕ) → Stops (k v)) → (bs : List (Piece F)) (v : ℕ) (rest t : List ℕ) (m : F) (p : ℕ)
    → ((u : ℕ) (cs : List (Piece F)) (t : List ℕ) (p : ℕ) → Fits (k u) cs v rest t m p → Refuses (k u) t m p)
    → Fits (numb j k) bs v rest t m p → Refuses (numb j k) t m p
refuses_number j k stops [] v rest t m p on h =
    let s = same_nums h.along.2 in
    (v, rest, h.spelt, h.complete, inl (ap j s.0 ∙ sym s.1, h.place))
refuses_number j k stops (byte c ∷ bs) v rest t m p on h = absurd (byte_not_num h.along.2)
refuses_number j k stops (num u w ∷ bs) v rest t m p on h =
    let s = same_nums h.along.2 in
    let good : j u ≡ fine = ap j s.0 ∙ sym s.1 ∙ h.ranged.0 in
    let goes : Along (k u) h.tells (bs ++ num v (out m) ∷ h.behind) = subst₂ (λ x y. Along (k x) h.tells y) (sym s.0) (sym s.2) h.along.3 in
    let t' = spelling bs ++ (numeral v ++ rest) in (
      u,
      t',
      h.spelt ∙ append_assoc (numeral u) (spelling bs) (numeral v ++ rest),
      stop_before (k u) (stops u) h.tells bs v (out m) h.behind goes (numeral v ++ rest),
      inr (
        length (spelling bs),
        good,
        h.place ∙ length-append (numeral u) (spelling bs),
        on u bs t' (length (spelling bs)) (record { tells = h.tells; behind = h.behind; along = goes; ranged = h.ranged.1; spelt = refl; complete = h.complete; place = refl }),
      ),
    )

fits_refuses : {F A : Type 0} (f : Form F A) → Apart f → (bs : List (Piece F)) (v : ℕ) (rest t : List ℕ) (m : F) (p : ℕ) → Fits f bs v rest t m p → Refuses f t m p
fits_refuses (done x) w bs v rest t m p h = absurd (not_empty bs h.behind (num v (out m)) h.along.1)
fits_refuses (mark b k) w [] v rest t m p h = absurd (byte_not_num (sym h.along.1))
fits_refuses (mark b k) w (num u j ∷ bs) v rest t m p h = absurd (byte_not_num (sym h.along.1))
fits_refuses (mark b k) w (byte c ∷ bs) v rest t m p h =
    let s = same_bytes h.along.1 in
    let goes : Along k h.tells (bs ++ num v (out m) ∷ h.behind) = subst (λ y. Along k h.tells y) (sym s.1) h.along.2 in
    let t' = spelling bs ++ (numeral v ++ rest) in (
      t',
      length (spelling bs),
      h.spelt ∙ ap (λ x. x ∷ t') s.0,
      h.place,
      fits_refuses k w bs v rest t' m (length (spelling bs)) (record { tells = h.tells; behind = h.behind; along = goes; ranged = h.ranged; spelt = refl; complete = h.complete; place = refl }),
    )
fits_refuses (numb j k) w bs v rest t m p h =
    refuses_number j k (λ u. (w u).0) bs v rest t m p (λ u cs t p g. fits_refuses (k u) (w u).1 cs v rest t m p g) h
fits_refuses {F} (dash_or j k) w bs v rest t m p h = by (λ u cs t p g. fits_refuses (k u) (w u).1 cs v rest t m p g) bs h h.along
  where
    by : ((u : Option ℕ) (cs : List (Piece F)) (t : List ℕ) (p : ℕ) → Fits (k u) cs v rest t m p → Refuses (k u) t m p) → (bs : List (Piece F)) → (h : Fits (dash_or j k) bs v rest t m p) → Along (dash_or j k) h.tells (bs ++ num v (out m) ∷ h.behind) → Refuses (dash_or j k) t m p
    by on bs h (inr a) =
        inr (refuses_number j (λ u. k (Some u)) (λ u. (w (Some u)).0) bs v rest t m p (λ u. on (Some u))
        (record { tells = h.tells; behind = h.behind; along = a; ranged = h.ranged; spelt = h.spelt; complete = h.complete; place = h.place }))
    by on [] h (inl a) = absurd (byte_not_num (sym a.1))
    by on (num u x ∷ bs) h (inl a) = absurd (byte_not_num (sym a.1))
    by on (byte c ∷ bs) h (inl a) =
        let s = same_bytes a.1 in
        let goes : Along (k None) h.tells (bs ++ num v (out m) ∷ h.behind) = subst (λ y. Along (k None) h.tells y) (sym s.1) a.2 in
        let t' = spelling bs ++ (numeral v ++ rest) in
        inl (
          t',
          length (spelling bs),
          h.spelt ∙ ap (λ x. x ∷ t') s.0,
          h.place,
          on None bs t' (length (spelling bs)) (record { tells = h.tells; behind = h.behind; along = goes; ranged = h.ranged; spelt = refl; complete = h.complete; place = refl }),
        )

pub to_refuses : {F A : Type 0} (f : Form F A) → Apart f → (t : List ℕ) (m : F) (p : ℕ) → Stands f t m p → Refuses f t m p
to_refuses f w t m p h =
    fits_refuses f w h.before h.value h.rest t m p
    (record { tells = h.tells; behind = h.behind; along = h.along; ranged = h.ranged; spelt = h.spelt; complete = h.complete; place = h.place })
