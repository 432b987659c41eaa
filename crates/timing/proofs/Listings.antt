-- The list of a net's steps has all of them and no others. Assumes nothing.
use Rattle.std.proofs.Common.{◌≡◌, ℕ, zero, suc, ◌+◌, ◌<◌, ◌≤◌, List, [], ◌∷◌, ◌++◌, map, length, get_or, true, false, Some, None, Option, sym, refl, ap, ◌∙◌, subst, inl, inr, add-one, arith}
use Rattle.std.specs.Option.{is_some}
use Rattle.std.proofs.lemmas.Bool.{cases_lt, false≢true, true≢false}
use Rattle.std.proofs.lemmas.List.{length-append, get_or_append_left, get_or-append-add, map_push, append_assoc, append-nil}
use Rattle.rules.specs.Net.{Link, Net, stations, Open}
use Rattle.rules.specs.Steps.{Step, forward, back, own, Has}
use Rattle.rules.proofs.Tested.{open_below}
use Rattle.nets.specs.declared.Step as code
use Rattle.nets.specs.declared.Step.TheVariants.{Forward, Back}
use Rattle.nets.specs.Views.{of_step}
use Rattle.handover.proofs.Options.{none_some}
use Rattle.timing.specs.Listing.{room_steps, link_steps, links_to, owns_to, steps_of}

-- The list has the net's steps, all of them and no others.
pub record Lists (N : Net) (ss : List Step) : Type 0 where
  pub only : (e : ℕ) → e < length ss → Has N (get_or ss e (forward 0))
  pub all : (s : Step) → Has N s → (e : ℕ) × (e < length ss) × (get_or ss e (forward 0) ≡ s)

-- What a turn of the loop over the links appends

room_one : (k : ℕ) (o : Option ℕ) → is_some o ≡ true → room_steps k o ≡ back k ∷ []
room_one k None e = absurd (false≢true e)
room_one k (Some c) e = refl

room_none : (k : ℕ) (o : Option ℕ) → is_some o ≡ false → room_steps k o ≡ []
room_none k None e = refl
room_none k (Some c) e = absurd (true≢false e)

module _ (N : Net) (k : ℕ) where
  next : (o : Option Link) → get_or N.links k None ≡ o → links_to N (k + 1) ≡ links_to N k ++ link_steps k o
  next o e = rw (add-one k, e) refl

  module _ (list : List code.Step) (so : map of_step list ≡ links_to N k) where
    pub turn_none : get_or N.links k None ≡ None → (list' : List code.Step) → list' ≡ list → map of_step list' ≡ links_to N (k + 1)
    turn_none e list' q = ap (map of_step) q ∙ so ∙ sym (append-nil (links_to N k)) ∙ sym (next None e)

    module _ (l : Link) (e : get_or N.links k None ≡ Some l) where
      pub turn_one : is_some l.c ≡ false → (list' : List code.Step) → list' ≡ list ++ (Forward k ∷ []) → map of_step list' ≡ links_to N (k + 1)
      turn_one f list' q =
          ap (map of_step) q ∙ map_push of_step list (Forward k) ∙ ap (λ xs. xs ++ (forward k ∷ [])) so
          ∙ ap (λ r. links_to N k ++ (forward k ∷ r)) (sym (room_none k l.c f)) ∙ sym (next (Some l) e)

      pub turn_two : is_some l.c ≡ true → (list' list'' : List code.Step) → list' ≡ list ++ (Forward k ∷ []) → list'' ≡ list' ++ (Back k ∷ []) → map of_step list'' ≡ links_to N (k + 1)
      turn_two f list' list'' q r =
          ap (map of_step) (r ∙ ap (λ xs. xs ++ (Back k ∷ [])) q) ∙ map_push of_step (list ++ (Forward k ∷ [])) (Back k)
          ∙ ap (λ xs. xs ++ (back k ∷ [])) (map_push of_step list (Forward k) ∙ ap (λ xs. xs ++ (forward k ∷ [])) so)
          ∙ append_assoc (links_to N k) (forward k ∷ []) (back k ∷ [])
          ∙ ap (λ r. links_to N k ++ (forward k ∷ r)) (sym (room_one k l.c f)) ∙ sym (next (Some l) e)

-- Each of a list

abbrev Each : (Step → Type 0) → List Step → Type 0
Each P xs = (e : ℕ) → e < length xs → P (get_or xs e (forward 0))

each_join : (P : Step → Type 0) (xs ys : List Step) → Each P xs → Each P ys → Each P (xs ++ ys)
each_join P [] ys a b e h = b e h
each_join P (x ∷ xs) ys a b zero h = a 0 (omega arith)
each_join P (x ∷ xs) ys a b (suc e) h = each_join P xs ys (λ i k. a (suc i) (omega arith)) b e (omega arith)

module _ (N : Net) where
  room_each : (k : ℕ) (l : Link) → Open N k l → (o : Option ℕ) → l.c ≡ o → Each (Has N) (room_steps k o)
  room_each k l e None f i h = absurd (omega arith)
  room_each k l e (Some c) f zero h = (l, c, e, f)
  room_each k l e (Some c) f (suc i) h = absurd (omega arith)

  link_each : (k : ℕ) (o : Option Link) → get_or N.links k None ≡ o → Each (Has N) (link_steps k o)
  link_each k None e i h = absurd (omega arith)
  link_each k (Some l) e zero h = (l, e)
  link_each k (Some l) e (suc i) h = room_each k l e l.c refl i (omega arith)

  links_each : (k : ℕ) → Each (Has N) (links_to N k)
  links_each zero e h = absurd (omega arith)
  links_each (suc k) e h = each_join (Has N) (links_to N k) (link_steps k (get_or N.links k None)) (links_each k) (link_each k (get_or N.links k None) refl) e h

  own_each : (i : ℕ) → i < stations N → Each (Has N) (own i ∷ [])
  own_each i h zero k = h
  own_each i h (suc e) k = absurd (omega arith)

  owns_each : (n : ℕ) → n ≤ stations N → Each (Has N) (owns_to n)
  owns_each zero h e k = absurd (omega arith)
  owns_each (suc n) h e k = each_join (Has N) (owns_to n) (own n ∷ []) (owns_each n (omega arith)) (own_each n (omega arith)) e k

-- A step is in a list

abbrev In : Step → List Step → Type 0
In s xs = (e : ℕ) × (e < length xs) × (get_or xs e (forward 0) ≡ s)

in_left : (s : Step) (xs ys : List Step) → In s xs → In s (xs ++ ys)
in_left s xs ys (e, h, p) = (e, omega (arith, length-append xs ys), get_or_append_left xs ys (forward 0) e h ∙ p)

in_right : (s : Step) (xs ys : List Step) → In s ys → In s (xs ++ ys)
in_right s xs ys (e, h, p) = (length xs + e, omega (arith, length-append xs ys), get_or-append-add xs ys e (forward 0) ∙ p)

module _ (N : Net) where
  forward_in : (k : ℕ) (o : Option Link) (l : Link) → o ≡ Some l → In (forward k) (link_steps k o)
  forward_in k None l e = absurd (none_some l e)
  forward_in k (Some l') l e = (0, omega arith, refl)

  room_in : (k : ℕ) (o : Option ℕ) (c : ℕ) → o ≡ Some c → In (back k) (room_steps k o)
  room_in k None c e = absurd (none_some c e)
  room_in k (Some c') c e = (0, omega arith, refl)

  back_in : (k : ℕ) (o : Option Link) (l : Link) (c : ℕ) → o ≡ Some l → l.c ≡ Some c → In (back k) (link_steps k o)
  back_in k None l c e f = absurd (none_some l e)
  back_in k (Some l') l c e f =
      let q : l' ≡ l = cc in
      in_right (back k) (forward k ∷ []) (room_steps k l'.c) (room_in k l'.c c (ap (λ z. z.c) q ∙ f))

  in_links : (n k : ℕ) (s : Step) → k < n → In s (link_steps k (get_or N.links k None)) → In s (links_to N n)
  in_links zero k s h a = absurd (omega arith)
  in_links (suc n) k s h a =
      elim (cases_lt k n) [
        | inl l ↦ in_left s (links_to N n) (link_steps n (get_or N.links n None)) (in_links n k s l a)
        | inr l ↦ (let e : k ≡ n = omega arith in in_right s (links_to N n) (link_steps n (get_or N.links n None)) (subst (λ z. In s (link_steps z (get_or N.links z None))) e a))
      ]

  in_owns : (n i : ℕ) → i < n → In (own i) (owns_to n)
  in_owns zero i h = absurd (omega arith)
  in_owns (suc n) i h =
      elim (cases_lt i n) [
        | inl l ↦ in_left (own i) (owns_to n) (own n ∷ []) (in_owns n i l)
        | inr l ↦ (let e : i ≡ n = omega arith in in_right (own i) (owns_to n) (own n ∷ []) (0, omega arith, ap own (sym e)))
      ]

  listed : (s : Step) → Has N s → In s (steps_of N)
  listed (forward k) (l, e) =
      in_left (forward k) (links_to N (length N.links)) (owns_to (stations N))
      (in_links (length N.links) k (forward k) (open_below N k l e) (forward_in k (get_or N.links k None) l e))
  listed (back k) (l, c, e, f) =
      in_left (back k) (links_to N (length N.links)) (owns_to (stations N))
      (in_links (length N.links) k (back k) (open_below N k l e) (back_in k (get_or N.links k None) l c e f))
  listed (own i) h =
      in_right (own i) (links_to N (length N.links)) (owns_to (stations N)) (in_owns (stations N) i h)

  pub lists_steps : Lists N (steps_of N)
  lists_steps =
      record {
        only = each_join (Has N) (links_to N (length N.links)) (owns_to (stations N)) (links_each N (length N.links)) (owns_each N (stations N) (omega arith));
        all = listed;
      }
