mod AdapterLemmas
