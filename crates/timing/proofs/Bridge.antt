-- What the search says of edges by their numbers, as the rules say it of steps, for any kind of length. Assumes nothing.
use Rattle.std.proofs.Common.{◌≡◌, ℕ, zero, suc, ◌*◌, ◌<◌, ◌≤◌, List, [], ◌∷◌, map, length, get_or, sym, refl, ap, ◌∙◌, subst, arith}
use lib.ListN
use lib.ListN.{length-map}
use Rattle.std.proofs.lemmas.List.{get_or-map}
use Rattle.handover.specs.Once.{Once}
use Rattle.rules.specs.Net.{Net, Sound, stations}
use Rattle.rules.specs.Steps.{Step, forward, Has, leads_from, leads_to, Chain, Circuit}
use Rattle.rules.proofs.Existence.{from_inside, to_inside}
use Rattle.search.specs.declared.Edge.{Edge}
use Rattle.search.specs.Terms.{begins, ends, lasts, Within, Searchable, EdgeChain}
use Rattle.nets.specs.declared.Step as code
use Rattle.nets.specs.declared.Step.TheVariants.{Forward}
use Rattle.nets.specs.Views.{of_step}
use Rattle.timing.specs.Edges.{edge_of, edges_of}
use Rattle.timing.specs.Listing.{steps_of}
use Rattle.timing.proofs.Carried.{all}
use Rattle.timing.proofs.Listings.{lists_steps}

module _ {L : Type 0} (N : Net) (w : Step → L) where
  begins_read : (ss : List Step) (e : ℕ) → e < length ss → begins (map (edge_of N w) ss) e ≡ leads_from N (get_or ss e (forward 0))
  begins_read [] e h = absurd (omega arith)
  begins_read (s ∷ ss) zero h = refl
  begins_read (s ∷ ss) (suc e) h = begins_read ss e (omega arith)

  ends_read : (ss : List Step) (e : ℕ) → e < length ss → ends (map (edge_of N w) ss) e ≡ leads_to N (get_or ss e (forward 0))
  ends_read [] e h = absurd (omega arith)
  ends_read (s ∷ ss) zero h = refl
  ends_read (s ∷ ss) (suc e) h = ends_read ss e (omega arith)

  lasts_read : (neutral : L) (ss : List Step) (e : ℕ) → e < length ss → lasts neutral (map (edge_of N w) ss) e ≡ w (get_or ss e (forward 0))
  lasts_read neutral [] e h = absurd (omega arith)
  lasts_read neutral (s ∷ ss) zero h = refl
  lasts_read neutral (s ∷ ss) (suc e) h = lasts_read neutral ss e (omega arith)

-- The step of an edge's number
abbrev pub step_at : Net → ℕ → Step
step_at N e = get_or (steps_of N) e (forward 0)

-- The program's list of them, read
module _ (N : Net) (steps : List code.Step) (q : map of_step steps ≡ steps_of N) where
  pub as_many : length steps ≡ length (steps_of N)
  as_many = sym (length-map steps of_step) ∙ ap length q

  pub step_read : (e : ℕ) → of_step (get_or steps e (Forward 0)) ≡ step_at N e
  step_read e = sym (ListN.get_or-map of_step steps e (Forward 0)) ∙ ap (λ z. get_or z e (forward 0)) q

  pub step_has : (e : ℕ) → e < length steps → Has N (of_step (get_or steps e (Forward 0)))
  step_has e h = subst (Has N) (sym (step_read e)) ((lists_steps N).only e (omega (arith, as_many)))

  pub edge_read : {L : Type 0} (w : Step → L) (e : ℕ) (d : Edge L) → e < length steps → edge_of N w (of_step (get_or steps e (Forward 0))) ≡ get_or (edges_of N w) e d
  edge_read w e d h = ap (edge_of N w) (step_read e) ∙ sym (get_or-map (edge_of N w) (steps_of N) e (forward 0) d (omega (arith, as_many)))

-- what the list of a `Steps` carries, where its items were read
pub listed : (N : Net) (list items : List code.Step) → ∥ map of_step list ≡ steps_of N ∥₁ → items ≡ list → map of_step items ≡ steps_of N
listed N list items h q = ap (map of_step) q ∙ all (map of_step list) (steps_of N) h

pub held : (N : Net) (list items : List code.Step) → ∥ map of_step list ≡ steps_of N ∥₁ → items ≡ list → (e : ℕ) → e < length items → ∥ Has N (of_step (get_or items e (Forward 0))) ∥₁
held N list items h q e k = ∣ step_has N items (listed N list items h q) e k ∣₁

module _ {L : Type 0} (N : Net) (w : Step → L) where
  pub many : length (edges_of N w) ≡ length (steps_of N)
  many = length-map (steps_of N) (edge_of N w)

  pub begins_at : (e : ℕ) → e < length (edges_of N w) → begins (edges_of N w) e ≡ leads_from N (step_at N e)
  begins_at e h = begins_read N w (steps_of N) e (omega (arith, many))

  pub ends_at : (e : ℕ) → e < length (edges_of N w) → ends (edges_of N w) e ≡ leads_to N (step_at N e)
  ends_at e h = ends_read N w (steps_of N) e (omega (arith, many))

  pub lasts_at : (neutral : L) (e : ℕ) → e < length (edges_of N w) → lasts neutral (edges_of N w) e ≡ w (step_at N e)
  lasts_at neutral e h = lasts_read N w neutral (steps_of N) e (omega (arith, many))

  pub has_at : (e : ℕ) → e < length (edges_of N w) → Has N (step_at N e)
  has_at e h = (lists_steps N).only e (omega (arith, many))

  -- every step has its number
  pub number : (P : Step → Type 0) → ((e : ℕ) → e < length (edges_of N w) → P (step_at N e)) → (s : Step) → Has N s → P s
  number P all s h = let f = (lists_steps N).all s h in subst P f.2 (all f.0 (omega (arith, f.1, many)))

  pub within : Sound N → Within (stations N) (edges_of N w)
  within S e h = (
    omega (arith, begins_at e h, from_inside N S (step_at N e) (has_at e h)),
    omega (arith, ends_at e h, to_inside N S (step_at N e) (has_at e h)),
  )

  pub searched : (neutral : L) (size : L → ℕ) (largest : ℕ) → Sound N → stations N ≤ 64 → ((s : Step) → Has N s → 64 * size (w s) ≤ largest) → Searchable neutral size largest (stations N) (edges_of N w)
  searched neutral size largest S few fit =
      record {
        few = few;
        inside = within S;
        room = λ e h. subst (λ z. 64 * size z ≤ largest) (sym (lasts_at neutral e h)) (fit (step_at N e) (has_at e h));
      }

  pub chain_as : (c : List ℕ) (a b : ℕ) → EdgeChain (edges_of N w) a c b → Chain N a (map (step_at N) c) b
  chain_as [] a b e = e
  chain_as (e ∷ c) a b (h, p, r) =
      (has_at e h, sym (begins_at e h) ∙ p, subst (λ z. Chain N z (map (step_at N) c) b) (ends_at e h) (chain_as c (ends (edges_of N w) e) b r))

  pub tos_are : (c : List ℕ) (a b : ℕ) → EdgeChain (edges_of N w) a c b → map (ends (edges_of N w)) c ≡ map (leads_to N) (map (step_at N) c)
  tos_are [] a b e = refl
  tos_are (e ∷ c) a b (h, p, r) = let q = tos_are c (ends (edges_of N w) e) b r in λ x. ends_at e h x ∷ q x

  pub froms_are : (c : List ℕ) (a b : ℕ) → EdgeChain (edges_of N w) a c b → (t : ℕ) → t < length c → get_or (map (leads_from N) (map (step_at N) c)) t 0 ≡ begins (edges_of N w) (get_or c t 0)
  froms_are [] a b e t h = absurd (omega arith)
  froms_are (e ∷ c) a b (h, p, r) zero k = sym (begins_at e h)
  froms_are (e ∷ c) a b (h, p, r) (suc t) k = froms_are c (ends (edges_of N w) e) b r t (omega arith)

  abbrev pub circuit_as : (c : List ℕ) (C : (a : ℕ) × EdgeChain (edges_of N w) a c a) → Once (map (ends (edges_of N w)) c) → Circuit N (map (step_at N) c)
  circuit_as c C o = record { closed = (C.0, chain_as c C.0 C.0 C.1); once = subst Once (tos_are c C.0 C.0 C.1) o }
