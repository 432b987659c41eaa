-- Reading a form says of a text exactly what is right, where the form has the pieces' texts for its texts.
use Rattle.std.proofs.Common.{◌≡◌, ℕ, ◌+◌, List, ◌∷◌, ◌++◌, take, sym, ap, ◌∙◌, subst, arith}
use Rattle.forms.proofs.Walks.{Spells, loose, Begins, Refuses, Apart, Tells, Along}
use Rattle.forms.specs.Form.{Form, out, Outcome, got, broken, refused, run}
use Rattle.forms.specs.Pieces.{Piece, num, spelling}
use Rattle.forms.specs.Texts.{Text, Begun, Refused, Broken, Right}
use Rattle.forms.proofs.Laws.{tells, reads, refuses}
use Rattle.forms.proofs.Flat.{from_spells, to_spells, from_loose, to_loose, from_refuses, to_refuses}

-- the form's texts are those of the pieces
pub record Describes {F A : Type 0} (f : Form F A) (Whole : A → Type 0) (pieces : A → List (Piece F)) : Type 0 where
  pub from : (a : A) (ps : List (Piece F)) → Along f a ps → Whole a × (ps ≡ pieces a)
  pub to : (a : A) → Whole a → Along f a (pieces a)
  pub apart : Apart f

module _ {F A : Type 0} (f : Form F A) (Whole : A → Type 0) (pieces : A → List (Piece F)) (d : Describes f Whole pieces) where
  text_from : (t : List ℕ) (a : A) → Spells f a t → Text Whole pieces t a
  text_from t a h =
      let r = from_spells f a t h in
      let n = d.from a r.0 r.1 in
      record { whole = n.0; ranged = rw n.1 at r.2; spelt = r.3 ∙ ap spelling n.1 }

  text_to : (t : List ℕ) (a : A) → Text Whole pieces t a → Spells f a t
  text_to t a h = subst (λ x. Spells f a x) (sym h.spelt) (to_spells f a (pieces a) (d.to a h.whole) h.ranged)

  begun_from : (s : List ℕ) → Begins f s → Begun Whole pieces s
  begun_from s h =
      let r = from_loose f h.0 (s ++ h.1) h.2 in
      let n = d.from h.0 r.0 r.1 in
      record { tells = h.0; whole = n.0; rest = h.1; spelt = sym (r.2 ∙ ap spelling n.1) }

  begun_to : (s : List ℕ) → Begun Whole pieces s → Begins f s
  begun_to s h =
      (h.tells, h.rest, subst (λ x. Spells (loose f) h.tells x) h.spelt (to_loose f h.tells (pieces h.tells) (d.to h.tells h.whole)))

  refused_from : (t : List ℕ) (m : F) (p : ℕ) → Refuses f t m p → Refused Whole pieces t m p
  refused_from t m p h =
      let r = from_refuses f t m p h in
      let n = d.from r.tells (r.before ++ num r.value (out m) ∷ r.behind) r.along in
      record {
        tells = r.tells;
        whole = n.0;
        before = r.before;
        value = r.value;
        behind = r.behind;
        parts = sym n.1;
        ranged = r.ranged;
        rest = r.rest;
        spelt = r.spelt;
        complete = r.complete;
        place = r.place;
      }

  refused_to : (t : List ℕ) (m : F) (p : ℕ) → Refused Whole pieces t m p → Refuses f t m p
  refused_to t m p h =
      to_refuses f d.apart t m p
      (record {
        tells = h.tells;
        before = h.before;
        value = h.value;
        behind = h.behind;
        along = subst (λ x. Along f h.tells x) h.parts (d.to h.tells h.whole);
        ranged = h.ranged;
        rest = h.rest;
        spelt = h.spelt;
        complete = h.complete;
        place = h.place;
      })

  said : (t : List ℕ) (o : Outcome F A) → Tells f t o → Right Whole pieces t o
  said t (got a) h = text_from t a h
  said t (broken p) h =
      record {
        within = h.0.0;
        begun = begun_from (take p t) h.0.1;
        longest = λ n l b. h.0.2 n l (begun_to (take n t) b);
        no_text = λ a w. h.1 a (text_to t a w);
        no_number = λ m q w. h.2 m q (refused_to t m q w);
      }
  said t (refused m p) h = refused_from t m p h

  module _ (t : List ℕ) (o : Outcome F A) (e : o ≡ run 0 f t) where
    pub right : Right Whole pieces t o
    right = said t o (subst (λ o. Tells f t o) (sym e) (tells f d.apart t))

    pub reads_as : (a : A) → Text Whole pieces t a → o ≡ got a
    reads_as a w = e ∙ reads f d.apart 0 a t (text_to t a w)

    pub refuses_at : (m : F) (p : ℕ) → Refused Whole pieces t m p → o ≡ refused m p
    refuses_at m p w =
        let z : 0 + p ≡ p = omega arith in
        e ∙ refuses f 0 m p t (refused_to t m p w) ∙ ap (refused m) z

  breaks_by : (t : List ℕ) (o : Outcome F A) → Right Whole pieces t o → (p : ℕ) → Broken Whole pieces t p → o ≡ broken p
  breaks_by t (got a) h p w = absurd (w.no_text a h)
  breaks_by t (broken q) h p w =
      let e : q ≡ p = omega (arith, h.longest p w.within w.begun, w.longest q h.within h.begun) in
      ap broken e
  breaks_by t (refused m q) h p w = absurd (w.no_number m q h)

  pub breaks_at : (t : List ℕ) (o : Outcome F A) → o ≡ run 0 f t → (p : ℕ) → Broken Whole pieces t p → o ≡ broken p
  breaks_at t o e p w = breaks_by t o (right t o e) p w
