-- Parts of forms and their pieces.
use Rattle.std.proofs.Common.{◌≡◌, ℕ, zero, suc, ◌+◌, ◌-◌, ◌<◌, ◌≤◌, List, [], ◌∷◌, ◌++◌, length, sym, refl, ap, ◌∙◌, subst, append_assoc, append-nil, arith, length-append}
use Rattle.forms.proofs.Walks.{Stops, Apart, Along}
use Rattle.forms.specs.Form.{Form, mark}
use Rattle.forms.specs.Pieces.{Piece, byte}
use Rattle.forms.specs.Lines.{word, rows, line, letters, each, line_pieces}

-- g is a part of forms, whose texts have the pieces f of what they tell
pub record Part {X F A : Type 0} (g : (X → Form F A) → Form F A) (f : X → List (Piece F)) : Type 0 where
  pub from : (k : X → Form F A) (a : A) (ps : List (Piece F)) → Along (g k) a ps → (x : X) × (qs : List (Piece F)) × (ps ≡ f x ++ qs) × Along (k x) a qs
  pub to : (k : X → Form F A) (a : A) (x : X) (qs : List (Piece F)) → Along (k x) a qs → Along (g k) a (f x ++ qs)
  pub apart : (k : X → Form F A) → ((x : X) → Stops (k x) × Apart (k x)) → Apart (g k)

pub word_from : {F A : Type 0} (bs : List ℕ) (k : Form F A) (a : A) (ps : List (Piece F)) → Along (word bs k) a ps → (qs : List (Piece F)) × (ps ≡ letters bs ++ qs) × Along k a qs
word_from [] k a ps h = (ps, refl, h)
word_from (b ∷ bs) k a ps h = let r = word_from bs k a h.0 h.2 in (r.0, h.1 ∙ ap (λ x. byte b ∷ x) r.1, r.2)

pub word_to : {F A : Type 0} (bs : List ℕ) (k : Form F A) (a : A) (qs : List (Piece F)) → Along k a qs → Along (word bs k) a (letters bs ++ qs)
word_to [] k a qs h = h
word_to (b ∷ bs) k a qs h = (letters bs ++ qs, refl, word_to bs k a qs h)

pub word_apart : {F A : Type 0} (bs : List ℕ) (k : Form F A) → Apart k → Apart (word bs k)
word_apart [] k w = w
word_apart (b ∷ bs) k w = word_apart bs k w

-- one more entry
length_more : {X : Type 0} (acc : List X) (x : X) → length (acc ++ x ∷ []) ≡ suc (length acc)
length_more acc x = omega (arith, length-append acc (x ∷ []))

module _ {X F A : Type 0} (entry : ℕ → (X → Form F A) → Form F A) (f : ℕ → X → List (Piece F)) (part : (i : ℕ) → Part (entry i) (f i)) where
  rows_from : (k : List X → Form F A) (n : ℕ) (acc : List X) (a : A) (ps : List (Piece F)) → Along (rows entry n acc k) a ps
      → (xs : List X) × (qs : List (Piece F)) × (length xs ≡ n) × (ps ≡ each f (length acc) xs ++ qs) × Along (k (acc ++ xs)) a qs
  rows_from k zero acc a ps h = ([], ps, refl, refl, subst (λ x. Along (k x) a ps) (sym (append-nil acc)) h)
  rows_from k (suc n) acc a ps h =
      let i = length acc in
      let r = (part i).from (λ x. rows entry n (acc ++ x ∷ []) k) a h.0 h.2 in
      let s = rows_from k n (acc ++ r.0 ∷ []) a r.1 r.3 in
      let behind : r.1 ≡ each f (suc i) s.0 ++ s.1 = s.3 ∙ ap (λ m. each f m s.0 ++ s.1) (length_more acc r.0) in (
        r.0 ∷ s.0,
        s.1,
        ap suc s.2,
        h.1 ∙ ap (λ x. byte 32 ∷ x) (r.2 ∙ ap (λ x. f i r.0 ++ x) behind ∙ sym (append_assoc (f i r.0) (each f (suc i) s.0) s.1)),
        subst (λ x. Along (k x) a s.1) (append_assoc acc (r.0 ∷ []) s.0) s.4,
      )

  rows_to : (k : List X → Form F A) (xs acc : List X) (a : A) (qs : List (Piece F)) → Along (k (acc ++ xs)) a qs → Along (rows entry (length xs) acc k) a (each f (length acc) xs ++ qs)
  rows_to k [] acc a qs h = subst (λ x. Along (k x) a qs) (append-nil acc) h
  rows_to k (x ∷ xs) acc a qs h =
      let i = length acc in
      let g = rows_to k xs (acc ++ x ∷ []) a qs (subst (λ y. Along (k y) a qs) (sym (append_assoc acc (x ∷ []) xs)) h) in
      let g' : Along (rows entry (length xs) (acc ++ x ∷ []) k) a (each f (suc i) xs ++ qs) = subst (λ m. Along (rows entry (length xs) (acc ++ x ∷ []) k) a (each f m xs ++ qs)) (length_more acc x) g in
      (f i x ++ (each f (suc i) xs ++ qs), ap (λ y. byte 32 ∷ y) (append_assoc (f i x) (each f (suc i) xs) qs), (part i).to (λ y. rows entry (length xs) (acc ++ y ∷ []) k) a x (each f (suc i) xs ++ qs) g')

  rows_apart : (k : List X → Form F A) → ((xs : List X) → Stops (k xs) × Apart (k xs)) → (n : ℕ) (acc : List X) → Stops (rows entry n acc k) × Apart (rows entry n acc k)
  rows_apart k w zero acc = w acc
  rows_apart k w (suc n) acc = (refl, (part (length acc)).apart (λ x. rows entry n (acc ++ x ∷ []) k) (λ x. rows_apart k w n (acc ++ x ∷ [])))

  pub line_from : (name : List ℕ) (k : List X → Form F A) (n : ℕ) (a : A) (ps : List (Piece F)) → Along (line name entry n k) a ps
      → (xs : List X) × (qs : List (Piece F)) × (length xs ≡ n) × (ps ≡ line_pieces name f xs ++ qs) × Along (k xs) a qs
  line_from name k n a ps h =
      let r = word_from name (rows entry n [] (λ xs. mark 10 (k xs))) a ps h in
      let s = rows_from (λ xs. mark 10 (k xs)) n [] a r.0 r.2 in (
        s.0,
        s.4.0,
        s.2,
        r.1 ∙ ap (λ x. letters name ++ x) (s.3 ∙ ap (λ x. each f 0 s.0 ++ x) s.4.1 ∙ sym (append_assoc (each f 0 s.0) (byte 10 ∷ []) s.4.0))
            ∙ sym (append_assoc (letters name) (each f 0 s.0 ++ byte 10 ∷ []) s.4.0),
        s.4.2,
      )

  pub line_to : (name : List ℕ) (k : List X → Form F A) (xs : List X) (a : A) (qs : List (Piece F)) → Along (k xs) a qs → Along (line name entry (length xs) k) a (line_pieces name f xs ++ qs)
  line_to name k xs a qs h =
      let g = word_to name (rows entry (length xs) [] (λ xs. mark 10 (k xs))) a (each f 0 xs ++ byte 10 ∷ qs) (rows_to (λ xs. mark 10 (k xs)) xs [] a (byte 10 ∷ qs) (qs, refl, h)) in
      let e : letters name ++ (each f 0 xs ++ byte 10 ∷ qs) ≡ line_pieces name f xs ++ qs =
      ap (λ x. letters name ++ x) (sym (append_assoc (each f 0 xs) (byte 10 ∷ []) qs)) ∙ sym (append_assoc (letters name) (each f 0 xs ++ byte 10 ∷ []) qs) in
      subst (λ x. Along (line name entry (length xs) k) a x) e g

  pub line_apart : (name : List ℕ) (k : List X → Form F A) (n : ℕ) → ((xs : List X) → Apart (k xs)) → Apart (line name entry n k)
  line_apart name k n w = word_apart name _ (rows_apart (λ xs. mark 10 (k xs)) (λ xs. (refl, w xs)) n []).1

-- how the reading of entries goes on
module _ {X F A : Type 0} (entry : ℕ → (X → Form F A) → Form F A) (k : List X → Form F A) where
  pub rows_start : (n : ℕ) (acc : List X) → rows entry n acc k ≡ rows entry (n - 0) acc k
  rows_start n acc = let e : n ≡ n - 0 = omega arith in ap (λ m. rows entry m acc k) e

  pub rows_more : (n i : ℕ) (acc : List X) → i < n → rows entry (n - i) acc k ≡ rows entry (suc (n - (i + 1))) acc k
  rows_more n i acc h = let e : n - i ≡ suc (n - (i + 1)) = omega arith in ap (λ m. rows entry m acc k) e

  pub rows_end : (n i : ℕ) (acc : List X) → n ≤ i → rows entry (n - i) acc k ≡ k acc
  rows_end n i acc h = let e : n - i ≡ 0 = omega arith in ap (λ m. rows entry m acc k) e
