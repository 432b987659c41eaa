-- The form of the net text has the net texts for its texts.
use Rattle.std.proofs.Common.{◌≡◌, ℕ, List, [], ◌∷◌, ◌++◌, length, Some, None, codes, Option, sym, refl, ap, ◌∙◌, subst, inl, inr, append-nil}
use Rattle.nets.specs.declared.LinkEnds.{LinkEnds}
use Rattle.nets.specs.declared.LinkTerms.{LinkTerms}
use Rattle.drafts.specs.declared.stage.NetSizes.{NetSizes}
use Rattle.drafts.specs.declared.fault.DraftFault.{DraftFault}
use Rattle.drafts.specs.Faults.{range_fault, station_fault}
use Rattle.forms.specs.Pieces.{Piece, byte}
use Rattle.forms.specs.Lines.{line, line_pieces}
use Rattle.forms.proofs.Walks.{Apart, Along}
use Rattle.forms.proofs.Parts.{Part, line_from, line_to, line_apart}
use Rattle.forms.proofs.Exact.{Describes}
use Rattle.texts.specs.NetText.{Entries, Whole, number, pieces, sizes_pieces, duration_pieces, ends_pieces, capacity_piece, terms_pieces}
use Rattle.texts.specs.NetForm.{NetForm, net_form, sizes_line, duration_entry, ends_entry, capacity_entry, terms_entry, after_sizes, after_durations, after_ends, after_terms}

part_duration : Part duration_entry duration_pieces
part_duration =
    record {
      from = λ k a ps h. (h.0, h.1, h.2, h.3);
      to = λ k a x qs h. (x, qs, refl, h);
      apart = λ k w v. w v;
    }

part_ends : (n : ℕ) → Part (ends_entry n) (ends_pieces n)
part_ends n =
    record {
      from = λ k a ps h.
          (record { from = h.0; to = h.3.2.0 }, h.3.2.1, h.2 ∙ ap (λ x. number (station_fault 1 n) h.0 ∷ x) (h.3.1 ∙ ap (λ x. byte 62 ∷ x) h.3.2.2), h.3.2.3);
      to = λ k a x qs h. (x.from, _, refl, (_, refl, (x.to, qs, refl, h)));
      apart = λ k w i. (refl, λ j. w (record { from = i; to = j }));
    }

-- the capacity, behind the other terms
capacity_from : (link w v u : ℕ) (k : LinkTerms → NetForm) (a : Entries) (ps : List (Piece DraftFault))
    → Along (capacity_entry link u (λ c. k (record { produced = w; consumed = v; stock = u; capacity = c }))) a ps
    → (c : Option ℕ) × (qs : List (Piece DraftFault)) × (ps ≡ capacity_piece link u c ∷ qs) × Along (k (record { produced = w; consumed = v; stock = u; capacity = c })) a qs
capacity_from link w v u k a ps (inl h) = (None, h.0, h.1, h.2)
capacity_from link w v u k a ps (inr h) = (Some h.0, h.1, h.2, h.3)

capacity_to : (link u : ℕ) (k : Option ℕ → NetForm) (a : Entries) (c : Option ℕ) (qs : List (Piece DraftFault)) → Along (k c) a qs → Along (capacity_entry link u k) a (capacity_piece link u c ∷ qs)
capacity_to link u k a None qs h = inl (qs, refl, h)
capacity_to link u k a (Some c) qs h = inr (c, qs, refl, h)

part_terms : (link : ℕ) → Part (terms_entry link) (terms_pieces link)
part_terms link =
    record {
      from = λ k a ps h.
          let h1 = h.3 in
          let h2 = h1.2 in
          let h3 = h2.3 in
          let h4 = h3.2 in
          let h5 = h4.3 in
          let r = capacity_from link h.0 h2.0 h4.0 k a h5.0 h5.2 in (
            record { produced = h.0; consumed = h2.0; stock = h4.0; capacity = r.0 },
            r.1,
            h.2 ∙ ap (λ x. number (range_fault 1 1 1_000) h.0 ∷ x) (h1.1 ∙ ap (λ x. byte 58 ∷ x) (h2.2 ∙ ap (λ x. number (range_fault 2 1 1_000) h2.0 ∷ x) (h3.1 ∙ ap (λ x. byte 58 ∷ x) (h4.2
                ∙ ap (λ x. number (range_fault 3 0 10_000) h4.0 ∷ x) (h5.1 ∙ ap (λ x. byte 58 ∷ x) r.2))))),
            r.3,
          );
      to = λ k a x qs h.
          (x.produced, _, refl, (_, refl, (x.consumed, _, refl, (_, refl, (x.stock, _, refl, (_, refl, capacity_to link x.stock (λ c. k (record { produced = x.produced; consumed = x.consumed; stock = x.stock; capacity = c })) a x.capacity qs h))))));
      apart = λ k w p. (refl, λ q. (refl, λ u. (refl, λ c. w (record { produced = p; consumed = q; stock = u; capacity = c }))));
    }

sizes_from : (k : NetSizes → NetForm) (a : Entries) (ps : List (Piece DraftFault)) → Along (sizes_line k) a ps → (s : NetSizes) × (qs : List (Piece DraftFault)) × (ps ≡ sizes_pieces s ++ qs) × Along (k s) a qs
sizes_from k a ps h0 =
    let h1 = h0.2 in
    let h2 = h1.2 in
    let h3 = h2.2 in
    let h4 = h3.2 in
    let h5 = h4.3 in
    let h6 = h5.2 in
    let h7 = h6.3 in
    let h8 = h7.2 in
    let h9 = h8.3 in
    let h10 = h9.2 in
    let h11 = h10.3 in (
      record { stations = h4.0; links = h6.0; pace = record { share = h8.0; unit = h10.0 } },
      h11.0,
      h0.1 ∙ ap (λ x. byte 110 ∷ x) (h1.1 ∙ ap (λ x. byte 101 ∷ x) (h2.1 ∙ ap (λ x. byte 116 ∷ x) (h3.1 ∙ ap (λ x. byte 32 ∷ x) (h4.2 ∙ ap (λ x. number (range_fault 1 1 64) h4.0 ∷ x) (h5.1 ∙ ap (λ x. byte 32 ∷ x) (h6.2 ∙ ap (λ x. number (range_fault 2 0 128) h6.0 ∷ x) (h7.1 ∙ ap (λ x. byte 32 ∷ x) (h8.2 ∙ ap (λ x. number (range_fault 3 1 1_000_000) h8.0 ∷ x) (h9.1 ∙ ap (λ x. byte 32 ∷ x) (h10.2 ∙ ap (λ x. number (range_fault 4 1 10_000_000_000) h10.0 ∷ x) h11.1)))))))))),
      h11.2,
    )

sizes_to : (k : NetSizes → NetForm) (a : Entries) (s : NetSizes) (qs : List (Piece DraftFault)) → Along (k s) a qs → Along (sizes_line k) a (sizes_pieces s ++ qs)
sizes_to k a s qs h =
    (_, refl, (_, refl, (_, refl, (_, refl, (s.stations, _, refl, (_, refl, (s.links, _, refl, (_, refl, (s.pace.share, _, refl, (_, refl, (s.pace.unit, _, refl, (qs, refl, h))))))))))))

net_apart : Apart net_form
unfolding net_form
net_apart = λ n. (
  refl,
  λ m. (
    refl,
    λ a. (
      refl,
      λ b. (
        refl,
        line_apart (λ i. duration_entry) (λ i. duration_pieces) (λ i. part_duration) (codes "dur") _ n (λ ds.
            line_apart (λ i. ends_entry n) (λ i. ends_pieces n) (λ i. part_ends n) (codes "ends") _ m (λ es.
            line_apart terms_entry terms_pieces part_terms (codes "terms") _ m (λ ts. tt))),
      ),
    ),
  ),
)

net_whole : (s : NetSizes) (ds : List ℕ) (es : List LinkEnds) (ts : List LinkTerms) → length ds ≡ s.stations → length es ≡ s.links → length ts ≡ s.links → Whole (record { sizes = s; durations = ds; ends = es; terms = ts })
net_whole s ds es ts p q r = record { stations = p; links = q; terms = r }

net_from : (e : Entries) (ps : List (Piece DraftFault)) → Along net_form e ps → Whole e × (ps ≡ pieces e)
unfolding net_form
net_from e ps h =
    let r0 = sizes_from after_sizes e ps h in
    let s = r0.0 in
    let r1 = line_from (λ i. duration_entry) (λ i. duration_pieces) (λ i. part_duration) (codes "dur") (after_durations s) s.stations e r0.1 r0.3 in
    let r2 = line_from (λ i. ends_entry s.stations) (λ i. ends_pieces s.stations) (λ i. part_ends s.stations) (codes "ends") (after_ends s r1.0) s.links e r1.1 r1.4 in
    let r3 = line_from terms_entry terms_pieces part_terms (codes "terms") (after_terms s r1.0 r2.0) s.links e r2.1 r2.4 in
    let d = line_pieces (codes "dur") (λ i. duration_pieces) r1.0 in
    let n = line_pieces (codes "ends") (λ i. ends_pieces s.stations) r2.0 in
    let t = line_pieces (codes "terms") terms_pieces r3.0 in
    let last : r2.1 ≡ t = r3.3 ∙ ap (λ x. t ++ x) r3.4.1 ∙ append-nil t in
    let all : ps ≡ sizes_pieces s ++ (d ++ (n ++ t)) = r0.2 ∙ ap (λ x. sizes_pieces s ++ x) (r1.3 ∙ ap (λ x. d ++ x) (r2.3 ∙ ap (λ x. n ++ x) last)) in
    let whole : Whole (record { sizes = s; durations = r1.0; ends = r2.0; terms = r3.0 }) = net_whole s r1.0 r2.0 r3.0 r1.2 r2.2 r3.2 in
    subst (λ x. Whole x × (ps ≡ pieces x)) (sym r3.4.0) (whole, all)

net_to : (e : Entries) → Whole e → Along net_form e (pieces e)
unfolding net_form
net_to e w =
    let s = e.sizes in
    let t = line_pieces (codes "terms") terms_pieces e.terms in
    let n = line_pieces (codes "ends") (λ i. ends_pieces s.stations) e.ends in
    let a3 : Along (after_ends s e.durations e.ends) e t =
    subst (λ m. Along (line (codes "terms") terms_entry m (after_terms s e.durations e.ends)) e t) w.terms
    (subst (λ x. Along (line (codes "terms") terms_entry (length e.terms) (after_terms s e.durations e.ends)) e x) (append-nil t)
    (line_to terms_entry terms_pieces part_terms (codes "terms") (after_terms s e.durations e.ends) e.terms e [] (refl, refl))) in
    let a2 : Along (after_durations s e.durations) e (n ++ t) =
    subst (λ m. Along (line (codes "ends") (λ i. ends_entry s.stations) m (after_ends s e.durations)) e (n ++ t)) w.links
    (line_to (λ i. ends_entry s.stations) (λ i. ends_pieces s.stations) (λ i. part_ends s.stations) (codes "ends") (after_ends s e.durations) e.ends e t a3) in
    let d = line_pieces (codes "dur") (λ i. duration_pieces) e.durations in
    let a1 : Along (after_sizes s) e (d ++ (n ++ t)) =
    subst (λ m. Along (line (codes "dur") (λ i. duration_entry) m (after_durations s)) e (d ++ (n ++ t))) w.stations
    (line_to (λ i. duration_entry) (λ i. duration_pieces) (λ i. part_duration) (codes "dur") (after_durations s) e.durations e (n ++ t) a2) in
    sizes_to after_sizes e s (d ++ (n ++ t)) a1

pub net_describes : Describes net_form Whole pieces
net_describes = record { from = net_from; to = net_to; apart = net_apart }
