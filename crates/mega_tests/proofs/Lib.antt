mod ChainFacts
