mod LadderFacts
